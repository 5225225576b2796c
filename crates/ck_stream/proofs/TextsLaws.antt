-- The bytes of a full stream, and what applying a backup makes.
use Rattle.std.proofs.Common.{◌≡◌, ℕ, List, [], ◌∷◌, map as list_map, refl, sym, ap, ◌∙◌}
use Rattle.std.specs.List.{AllByRecursion}
use Rattle.ck_model.specs.declared.key.Key.{Key}
use Rattle.ck_model.specs.Cells.{Cells, Content, OfOneHistory}
use Rattle.ck_model.specs.Streams.{image, applied, changed as map_changes}
use Rattle.ck_model.proofs.StreamLaws.{applied-changed}
use Rattle.ck_stream.specs.declared.item.Item.{Item}
use Rattle.ck_stream.specs.declared.item.Item.TheVariants.{Put, Removed}
use Rattle.ck_stream.specs.declared.stream.Full.{Full}
use Rattle.ck_stream.specs.declared.stream.Changed.{Changed}
use Rattle.ck_stream.specs.declared.stream.Stream.TheVariants as stream
use Rattle.ck_stream.specs.Written.{text}
use Rattle.ck_stream.specs.Right.{IsPut, IsFull, contents, changes}
use Rattle.ck_stream.specs.Texts.{item_for, texts}

-- records that all put come of their contents
items_again : (items : List Item) → AllByRecursion IsPut items → list_map (λ e. item_for e.0 e.1) (contents items) ≡ items
items_again [] puts = refl
items_again (Put key payload ∷ items) puts = ap (λ (rest : List Item). Put key payload ∷ rest) (items_again items puts.1)
items_again (Removed key ∷ items) puts = absurd puts.0

-- a full stream has the bytes of its id and of what it holds
pub text_is : (full : Full) (id : ℕ) (es : List (Key × Content)) → IsFull full → full.id ≡ id → contents full.items ≡ es → text (stream.Full full) ≡ texts.full id es
text_is full id es right same held =
    let items : full.items ≡ list_map (λ e. item_for e.0 e.1) es = sym (items_again full.items right.puts) ∙ ap (list_map (λ e. item_for e.0 e.1)) held in
    λ i. text (stream.Full (record { id = same i; items = items i }))

pub backups_apply : (a b : Cells) (full later : Full) (changed : Changed) → OfOneHistory a b → contents full.items ≡ image a → changes changed.items ≡ map_changes a b → IsFull later → later.id ≡ changed.to → contents later.items ≡ applied (contents full.items) (changes changed.items) → text (stream.Full later) ≡ texts.full changed.to (image b)
backups_apply a b full later changed history of_a of_changes right id made =
    text_is later changed.to (image b) right id (made ∙ (λ i. applied (of_a i) (of_changes i)) ∙ applied-changed a b history)

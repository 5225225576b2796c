-- Questions that blocks answer as nothing does.
use Rattle.std.proofs.Common.{◌≡◌, ℕ, Some, None, refl, sym, ap, ◌∙◌}
use Rattle.std.specs.Option.{option_map}
use Rattle.ck_model.specs.declared.key.Key.{Key}
use Rattle.ck_model.specs.declared.cell.Payload.TheVariants.{To, File, Dir, Bytes}
use Rattle.ck_model.specs.Cells.{Cells, Content, content_at, named_node, is_directory, size_in}
use Rattle.ck_model.specs.Table.{Table}
use Rattle.ck_model.specs.Chain.{value_at}
use Rattle.ck_model.specs.Values.{payload_of}
use Rattle.ck_tree.specs.Map.{small_in, without_bytes, StandsFor}

module _ {A : Type 0} (ask : Content → A) (alike : (content : Content) → ask (without_bytes content) ≡ ask content) where
  pub asked : (t : Table) (fs : ℕ) (cells : Cells) → StandsFor t fs cells → (key : Key) → ask (option_map payload_of (small_in (value_at t fs key))) ≡ ask (content_at cells key)
  asked t fs cells stands key = ap ask (sym (stands.small key)) ∙ alike (content_at cells key)

pub named-alike : (content : Content) → named_node (without_bytes content) ≡ named_node content
named-alike None = refl
named-alike (Some (To node)) = refl
named-alike (Some (File size)) = refl
named-alike (Some Dir) = refl
named-alike (Some (Bytes bytes)) = refl

pub directory-alike : (content : Content) → is_directory (without_bytes content) ≡ is_directory content
directory-alike None = refl
directory-alike (Some (To node)) = refl
directory-alike (Some (File size)) = refl
directory-alike (Some Dir) = refl
directory-alike (Some (Bytes bytes)) = refl

pub size-alike : (content : Content) → size_in (without_bytes content) ≡ size_in content
size-alike None = refl
size-alike (Some (To node)) = refl
size-alike (Some (File size)) = refl
size-alike (Some Dir) = refl
size-alike (Some (Bytes bytes)) = refl

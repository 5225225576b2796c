-- What holds of every world stays so in every call and every legal history.
use Rattle.std.proofs.Common.{◌≡◌, ◌≢◌, ◌≤◌, ◌<◌, ◌⊎◌, inl, inr, ℕ, Bool, true, false, not, Option, Some, None, List, [], ◌∷◌, ◌++◌, find, option_map, ok_or, Result, Ok, Err, nat_eq, if◌then◌else◌, refl, sym, ap, subst, ◌∙◌, arith}
use Rattle.std.specs.List.{AllByRecursion}
use Rattle.std.specs.FinMap as map
use Rattle.std.proofs.lemmas.Bool.Decides.{nat_tests}
use Rattle.ck_model.specs.declared.key.Key.{Key}
use Rattle.ck_model.specs.declared.key.Key.TheVariants.{Name, Node, Block}
use Rattle.ck_model.specs.declared.cell.Cell.{Cell}
use Rattle.ck_model.specs.declared.cell.Payload.TheVariants.{To, File, Dir, Bytes}
use Rattle.ck_model.specs.declared.checkpoint.Counters.{Counters}
use Rattle.ck_model.specs.declared.checkpoint.Kind.{Kind}
use Rattle.ck_model.specs.declared.checkpoint.Kind.TheVariants.{Keeping, Nodata}
use Rattle.ck_model.specs.declared.entry.Entry.{Entry}
use Rattle.ck_model.specs.declared.reply.Reply.{Reply}
use Rattle.ck_model.specs.declared.reply.Reply.TheVariants.{NoCkpt, NotData}
use Rattle.ck_model.specs.Key.{key_cmp}
use Rattle.ck_model.specs.Cells.{Cells, Content, differs, mark_of, marked, OfOneHistory}
use Rattle.ck_model.specs.Rules.{KeyBelow}
use Rattle.ck_model.specs.Changes.{cell_of}
use Rattle.ck_model.specs.World.{World, Checkpoint, root_cells, keeps_files, is_named, shown_by}
use Rattle.ck_model.specs.Streams.{Texts}
use Rattle.ck_model.specs.CheckpointCalls.{checkpoint_named, restored}
use Rattle.ck_model.specs.Step.{step}
use Rattle.ck_model.specs.History.{Past, CallsBy, begun, created_id, past_after, past_of, IsLegalNext, IsLegalFrom}
use Rattle.ck_laws.specs.Laws.{StampsBelow, ContentBelow, NumbersBelow, Agree, EachTwo, IsWhole, HasBlocks, IsWorld, WorldsBegin, CallsKeepWorlds, WorldsStay}
use Rattle.ck_model.proofs.CellLaws.{get-marked, stamp-mark_of}
use Rattle.ck_laws.proofs.Lookups.{cases_key, get-insert_same, get-insert_other}
use Rattle.ck_laws.proofs.WorldLemmas.{IsLater, Remain, none, keep, leave, All-remain, All-append, shown_again, marked-shown_by}
use Rattle.ck_laws.proofs.StepLemmas.{Adds, step-sound}
use Rattle.ck_laws.proofs.HistoryLemmas.{past_after-adds}
use Rattle.ck_laws.proofs.LawsLemmas.{IsOrdered-adds, IsOrdered-empty}
use Rattle.ck_laws.proofs.Primaries.{Leaves, LeavesPrimary, then-given, unless, found_of, Primaries, step-primary, past_after-primary}
use Rattle.ck_laws.proofs.CellEdits.{IsOldOrNew, old, new, IsEdit, IsEdited, made-edited, removed-edited, removed_directory-edited, moved-edited, overwritten-edited, truncated-edited}

-- ---- maps of one history

-- what a checkpoint of a kind shows at a key
abbrev shown_cell : Kind → Key → Cell → Cell
shown_cell Keeping key cell = cell
shown_cell Nodata key cell = mark_of key cell

get-shown : (kind : Kind) (cells : Cells) (key : Key) → map.get (shown_by kind cells) key ≡ option_map (shown_cell kind key) (map.get cells key)
get-shown Keeping cells key = elim (map.get cells key) as (λ o. o ≡ option_map (λ (cell : Cell). cell) o) [ None ↦ refl | Some cell ↦ refl ]
get-shown Nodata cells key = get-marked cells key

stamp-shown : (kind : Kind) (key : Key) (cell : Cell) → (shown_cell kind key cell).stamp ≡ cell.stamp
stamp-shown Keeping key cell = refl
stamp-shown Nodata key cell = stamp-mark_of key cell

differs-marked : (key : Key) (o p : Option Cell) → differs (option_map (mark_of key) o) (option_map (mark_of key) p) ≡ differs o p
differs-marked key None None = refl
differs-marked key None (Some y) = refl
differs-marked key (Some x) None = refl
differs-marked key (Some x) (Some y) = (λ i. not (nat_eq (stamp-mark_of key x i) (stamp-mark_of key y i)))

differs-turned : (o p : Option Cell) → differs o p ≡ false → differs p o ≡ false
differs-turned None None h = refl
differs-turned None (Some y) h = cc
differs-turned (Some x) None h = cc
differs-turned (Some x) (Some y) h = turned x.stamp y.stamp h
  where
    turned : (m n : ℕ) → not (nat_eq m n) ≡ false → not (nat_eq n m) ≡ false
    turned m n h = grind (arith, nat_tests)

pub OfOneHistory-turned : (a b : Cells) → OfOneHistory a b → OfOneHistory b a
OfOneHistory-turned a b h key same = sym (h key (differs-turned (map.get b key) (map.get a key) same))

pub OfOneHistory-marked : (a b : Cells) → OfOneHistory a b → OfOneHistory (marked a) (marked b)
OfOneHistory-marked a b h key same =
    let alike : differs (map.get a key) (map.get b key) ≡ false = sym (differs-marked key (map.get a key) (map.get b key)) ∙ (λ i. differs (sym (get-marked a key) i) (sym (get-marked b key) i)) ∙ same in
    get-marked a key ∙ ap (option_map (mark_of key)) (h key alike) ∙ sym (get-marked b key)

pub OfOneHistory-itself : (a : Cells) → OfOneHistory a a
OfOneHistory-itself a key same = refl

shown-marked : (kind : Kind) (cells : Cells) → shown_by kind (marked cells) ≡ marked cells
shown-marked Keeping cells = refl
shown-marked Nodata cells = shown_again Nodata cells

-- ---- a map that cells are put into

none_differs : (q : Option Cell) → differs None q ≡ false → None ≡ q
none_differs None h = refl
none_differs (Some y) h = cc

newer_differs : (x : Cell) (q : Option Cell) → ((y : Cell) → q ≡ Some y → y.stamp < x.stamp) → differs (Some x) q ≡ false → ⊥
newer_differs x None older h = cc
newer_differs x (Some y) older h = apart x.stamp y.stamp (older y refl) h
  where
    apart : (m n : ℕ) → n < m → not (nat_eq m n) ≡ false → ⊥
    apart m n less h = grind (arith, nat_tests)

pub agree-edit : (kind : Kind) (before after cells : Cells) (limit stamp : ℕ) → IsEdit before limit stamp after → StampsBelow stamp cells → OfOneHistory (shown_by kind before) cells → OfOneHistory (shown_by kind after) cells
agree-edit kind before after cells limit stamp edit below h key same = on (map.get after key) refl
  where
    on : (o : Option Cell) → map.get after key ≡ o → map.get (shown_by kind after) key ≡ map.get cells key
    on None is =
        let shown : map.get (shown_by kind after) key ≡ None = get-shown kind after key ∙ ap (option_map (shown_cell kind key)) is in
        shown ∙ none_differs (map.get cells key) (ap (λ o. differs o (map.get cells key)) (sym shown) ∙ same)
    on (Some x) is = from (edit key x is)
      where
        shown : map.get (shown_by kind after) key ≡ Some (shown_cell kind key x)
        shown = get-shown kind after key ∙ ap (option_map (shown_cell kind key)) is

        from : IsOldOrNew before limit stamp key x → map.get (shown_by kind after) key ≡ map.get cells key
        from (old was) =
            let alike : map.get (shown_by kind after) key ≡ map.get (shown_by kind before) key = shown ∙ sym (get-shown kind before key ∙ ap (option_map (shown_cell kind key)) was) in
            alike ∙ h key (ap (λ o. differs o (map.get cells key)) (sym alike) ∙ same)
        from (new n) =
            let given : (shown_cell kind key x).stamp ≡ stamp = stamp-shown kind key x ∙ n.stamp in
            absurd (newer_differs (shown_cell kind key x) (map.get cells key) (λ y there. (let low = below key y there in omega (arith, low, given))) (ap (λ o. differs o (map.get cells key)) (sym shown) ∙ same))

-- ---- lists of checkpoints

both : (P Q : Checkpoint → Type 0) (cs : List Checkpoint) → AllByRecursion P cs → AllByRecursion Q cs → AllByRecursion (λ c. P c × Q c) cs
both P Q [] p q = tt
both P Q (c ∷ cs) p q = ((p.0, q.0), both P Q cs p.1 q.1)

pub each_of : (P Q : Checkpoint → Type 0) → ((c : Checkpoint) → P c → Q c) → (cs : List Checkpoint) → AllByRecursion P cs → AllByRecursion Q cs
each_of P Q step [] h = tt
each_of P Q step (c ∷ cs) h = (step c h.0, each_of P Q step cs h.1)

EachTwo-remain : (S : Checkpoint → Type 0) (R : Checkpoint → Checkpoint → Type 0)
    → ((c d x y : Checkpoint) → IsLater c x → IsLater d y → S c → S d → R c d → R x y)
    → {cs ds : List Checkpoint} → Remain cs ds → AllByRecursion S cs → EachTwo R cs → EachTwo R ds
EachTwo-remain S R step none all h = tt
EachTwo-remain S R step (keep {c = c} {d = x} {cs = cs} {ds = ds} later rest) all h = (
  All-remain (λ d. S d × R c d) (R x) (λ d y also both. step c d x y later also all.0 both.0 both.1) rest (both S (R c) cs all.1 h.0),
  EachTwo-remain S R step rest all.1 h.1,
)
EachTwo-remain S R step (leave rest) all h = EachTwo-remain S R step rest all.1 h.1

EachTwo-append : (R : Checkpoint → Checkpoint → Type 0) (cs : List Checkpoint) (last : Checkpoint) → EachTwo R cs → AllByRecursion (λ c. R c last) cs → EachTwo R (cs ++ last ∷ [])
EachTwo-append R [] last h all = (tt, tt)
EachTwo-append R (c ∷ cs) last h all = (All-append (R c) cs last h.0 all.0, EachTwo-append R cs last h.1 all.1)

-- ---- what becomes of two checkpoints

abbrev IsShown : Checkpoint → Type 0
IsShown c = shown_by c.kind c.cells ≡ c.cells

abbrev AgreeTwo : Checkpoint → Checkpoint → Type 0
AgreeTwo c d = Agree c.kind c.cells d

-- the map of a checkpoint that is later the same or became nodata
data Becomes (c x : Checkpoint) : Type 0 where
  stays : x.kind ≡ c.kind → x.cells ≡ c.cells → Becomes c x
  loses : x.kind ≡ Nodata → x.cells ≡ marked c.cells → Becomes c x

becomes : (c x : Checkpoint) → IsLater c x → IsShown c → Becomes c x
becomes c x later shown = on x.kind refl
  where
    on : (kind : Kind) → x.kind ≡ kind → Becomes c x
    on Keeping is = let kept = later.keeps is in stays (is ∙ sym kept.0) kept.1
    on Nodata is = loses is (sym (later.shows c.cells shown) ∙ ap (λ k. shown_by k c.cells) is)

agree-marked_first : (kind : Kind) (cells : Cells) (d : Checkpoint) → Agree kind cells d → Agree Nodata (marked cells) d
agree-marked_first kind cells d h =
    let each = OfOneHistory-marked (shown_by d.kind cells) (shown_by kind d.cells) h in
    subst (λ x. OfOneHistory x (marked d.cells)) (sym (shown-marked d.kind cells))
    (subst (λ x. OfOneHistory (marked cells) x) (marked-shown_by kind d.cells)
    (subst (λ x. OfOneHistory x (marked (shown_by kind d.cells))) (marked-shown_by d.kind cells) each))

-- where the first of two becomes another
agree-first : (c d x : Checkpoint) → Becomes c x → AgreeTwo c d → AgreeTwo x d
agree-first c d x (stays kind cells) h = subst (λ k. Agree k x.cells d) (sym kind) (subst (λ m. Agree c.kind m d) (sym cells) h)
agree-first c d x (loses kind cells) h = subst (λ k. Agree k x.cells d) (sym kind) (subst (λ m. Agree Nodata m d) (sym cells) (agree-marked_first c.kind c.cells d h))

agree-second : (kind : Kind) (cells : Cells) (d y : Checkpoint) → Becomes d y → Agree kind cells d → Agree kind cells y
agree-second kind cells d y (stays same map) h =
    subst (λ k. OfOneHistory (shown_by k cells) (shown_by kind y.cells)) (sym same) (subst (λ m. OfOneHistory (shown_by d.kind cells) (shown_by kind m)) (sym map) h)
agree-second kind cells d y (loses is map) h =
    let each = OfOneHistory-marked (shown_by d.kind cells) (shown_by kind d.cells) h in
    subst (λ k. OfOneHistory (shown_by k cells) (shown_by kind y.cells)) (sym is)
    (subst (λ m. OfOneHistory (marked cells) (shown_by kind m)) (sym map)
    (subst (λ m. OfOneHistory (marked cells) m) (sym (shown-marked kind d.cells))
    (subst (λ m. OfOneHistory (marked cells) m) (marked-shown_by kind d.cells)
    (subst (λ m. OfOneHistory m (marked (shown_by kind d.cells))) (marked-shown_by d.kind cells) each))))

agree-later : (c d x y : Checkpoint) → IsLater c x → IsLater d y → IsShown c → IsShown d → AgreeTwo c d → AgreeTwo x y
agree-later c d x y later also shown other h =
    agree-second x.kind x.cells d y (becomes d y also other) (agree-first c d x (becomes c x later shown) h)

-- ---- marks keep stamps, numbers and whole blocks

pub StampsBelow-shown : (next : ℕ) (kind : Kind) (cells : Cells) → StampsBelow next cells → StampsBelow next (shown_by kind cells)
StampsBelow-shown next kind cells h key cell is = on (map.get cells key) refl (sym (get-shown kind cells key) ∙ is)
  where
    on : (o : Option Cell) → map.get cells key ≡ o → option_map (shown_cell kind key) o ≡ Some cell → cell.stamp < next
    on None _ clash = cc
    on (Some x) there same =
        let alike : shown_cell kind key x ≡ cell = cc in
        let low = h key x there in
        subst (λ c. c.stamp < next) alike (subst (λ n. n < next) (sym (stamp-shown kind key x)) low)

content-marked : (next : ℕ) (key : Key) (x : Cell) → ContentBelow next x.payload → ContentBelow next (mark_of key x).payload
content-marked next (Name d n) x h = h
content-marked next (Node m) x h = h
content-marked next (Block m i) x h = tt

content-shown : (next : ℕ) (kind : Kind) (key : Key) (x : Cell) → ContentBelow next x.payload → ContentBelow next (shown_cell kind key x).payload
content-shown next Keeping key x h = h
content-shown next Nodata key x h = content-marked next key x h

pub NumbersBelow-shown : (next : ℕ) (kind : Kind) (cells : Cells) → NumbersBelow next cells → NumbersBelow next (shown_by kind cells)
NumbersBelow-shown next kind cells h key cell is = on (map.get cells key) refl (sym (get-shown kind cells key) ∙ is)
  where
    on : (o : Option Cell) → map.get cells key ≡ o → option_map (shown_cell kind key) o ≡ Some cell → KeyBelow next key × ContentBelow next cell.payload
    on None _ clash = cc
    on (Some x) there same =
        let alike : shown_cell kind key x ≡ cell = cc in
        let low = h key x there in
        (low.0, subst (λ c. ContentBelow next c.payload) alike (content-shown next kind key x low.1))

whole-marked : (key : Key) (x : Cell) → IsWhole x.payload → IsWhole (mark_of key x).payload
whole-marked (Name d n) x h = h
whole-marked (Node m) x h = h
whole-marked (Block m i) x h = tt

whole-shown : (kind : Kind) (key : Key) (x : Cell) → IsWhole x.payload → IsWhole (shown_cell kind key x).payload
whole-shown Keeping key x h = h
whole-shown Nodata key x h = whole-marked key x h

pub HasBlocks-shown : (kind : Kind) (cells : Cells) → HasBlocks cells → HasBlocks (shown_by kind cells)
HasBlocks-shown kind cells h key cell is = on (map.get cells key) refl (sym (get-shown kind cells key) ∙ is)
  where
    on : (o : Option Cell) → map.get cells key ≡ o → option_map (shown_cell kind key) o ≡ Some cell → IsWhole cell.payload
    on None _ clash = cc
    on (Some x) there same =
        let alike : shown_cell kind key x ≡ cell = cc in
        subst (λ c. IsWhole c.payload) alike (whole-shown kind key x (h key x there))

pub StampsBelow-more : (next more : ℕ) (cells : Cells) → next ≤ more → StampsBelow next cells → StampsBelow more cells
StampsBelow-more next more cells le h key cell is = let low = h key cell is in omega (arith, low, le)

key_more : (next more : ℕ) (key : Key) → next ≤ more → KeyBelow next key → KeyBelow more key
key_more next more (Name d n) le h = omega (arith, h, le)
key_more next more (Node m) le h = omega (arith, h, le)
key_more next more (Block m i) le h = omega (arith, h, le)

content_more : (next more : ℕ) (content : Content) → next ≤ more → ContentBelow next content → ContentBelow more content
content_more next more None le h = tt
content_more next more (Some (To node)) le h = omega (arith, h, le)
content_more next more (Some (File size)) le h = tt
content_more next more (Some Dir) le h = tt
content_more next more (Some (Bytes bytes)) le h = tt

NumbersBelow-more : (next more : ℕ) (cells : Cells) → next ≤ more → NumbersBelow next cells → NumbersBelow more cells
NumbersBelow-more next more cells le h key cell is = let low = h key cell is in (key_more next more key le low.0, content_more next more cell.payload le low.1)

-- ---- the primary map

-- a primary map and counters that may follow a world
record Follows (w : World) (cells : Cells) (next : Counters) : Type 0 where
  stamp : w.next.stamp ≤ next.stamp
  number : w.next.number ≤ next.number
  stamps : StampsBelow next.stamp cells
  numbers : NumbersBelow next.number cells
  payloads : HasBlocks cells
  versions : AllByRecursion (Agree Keeping cells) w.checkpoints

edited-follows : (w : World) → IsWorld w → (cells : Cells) (next : Counters) → IsEdited w cells next → Follows w cells next
edited-follows w world cells next h = record {
  stamp = omega (arith, h.stamp);
  number = h.number;
  stamps = stamps;
  numbers = numbers;
  payloads = payloads;
  versions = each_of (λ c. StampsBelow w.next.stamp c.cells × Agree Keeping w.primary c) (Agree Keeping cells)
      (λ c both. agree-edit c.kind w.primary cells c.cells next.number w.next.stamp h.edit both.0 both.1)
      w.checkpoints (both (λ c. StampsBelow w.next.stamp c.cells) (Agree Keeping w.primary) w.checkpoints world.frozen_stamps world.versions);
}
  where
    stamps : StampsBelow next.stamp cells
    stamps key cell is = on (h.edit key cell is)
      where
        on : IsOldOrNew w.primary next.number w.next.stamp key cell → cell.stamp < next.stamp
        on (old was) = let low = world.stamps key cell was in omega (arith, low, h.stamp)
        on (new n) = omega (arith, n.stamp, h.stamp)

    numbers : NumbersBelow next.number cells
    numbers key cell is = on (h.edit key cell is)
      where
        on : IsOldOrNew w.primary next.number w.next.stamp key cell → KeyBelow next.number key × ContentBelow next.number cell.payload
        on (old was) = let low = world.numbers key cell was in (key_more w.next.number next.number key h.number low.0, content_more w.next.number next.number cell.payload h.number low.1)
        on (new n) = (n.keyed, n.content)

    payloads : HasBlocks cells
    payloads key cell is = on (h.edit key cell is)
      where
        on : IsOldOrNew w.primary next.number w.next.stamp key cell → IsWhole cell.payload
        on (old was) = world.payloads key cell was
        on (new n) = n.whole

left-follows : (w : World) → IsWorld w → (r : Result World Reply) → LeavesPrimary (IsEdited w) r → LeavesPrimary (Follows w) r
left-follows w world (Ok next) h = edited-follows w world next.primary next.next h
left-follows w world (Err reply) h = tt

-- a data checkpoint among these agrees with all of them
pub agree-among : (p : Checkpoint → Bool) (cs : List Checkpoint) (reply : Reply) (c : Checkpoint) → c.kind ≡ Keeping → EachTwo AgreeTwo cs → ok_or (find p cs) reply ≡ Ok c → AllByRecursion (Agree Keeping c.cells) cs
agree-among p [] reply c keeping h found = tt
agree-among p (d ∷ cs) reply c keeping h found =
    elim (p d) as (λ b. ok_or (if b then Some d else find p cs) reply ≡ Ok c → Agree Keeping c.cells d × AllByRecursion (Agree Keeping c.cells) cs) [
      | true ↦ λ same.
          let is : d ≡ c = cc in (
            subst (λ x. Agree Keeping c.cells x) (sym is) (subst (λ k. OfOneHistory (shown_by k c.cells) c.cells) (sym keeping) (OfOneHistory-itself c.cells)),
            subst (λ k. AllByRecursion (Agree k c.cells) cs) keeping (subst (λ x. AllByRecursion (AgreeTwo x) cs) is h.0),
          )
      | false ↦ λ rest.
          let pair = found_of (AgreeTwo d) p cs reply c h.0 rest in
          let turned = OfOneHistory-turned (shown_by c.kind d.cells) (shown_by d.kind c.cells) pair in
          (subst (λ k. OfOneHistory (shown_by d.kind c.cells) (shown_by k d.cells)) keeping turned, agree-among p cs reply c keeping h.1 rest)
    ] found

pub keeping_of : (kind : Kind) → not (keeps_files kind) ≡ false → kind ≡ Keeping
keeping_of Keeping h = refl
keeping_of Nodata h = cc

restored-follows : (w : World) → IsWorld w → (name : List ℕ) → LeavesPrimary (Follows w) (restored w name)
restored-follows w world name =
    then-given (Leaves (Follows w)) (checkpoint_named w name) _ (λ c is.
    unless (Leaves (Follows w)) (not (keeps_files c.kind)) NotData _ (λ data'. record {
      stamp = omega arith;
      number = omega arith;
      stamps = found_of (λ d. StampsBelow w.next.stamp d.cells) (is_named name) w.checkpoints NoCkpt c world.frozen_stamps is;
      numbers = found_of (λ d. NumbersBelow w.next.number d.cells) (is_named name) w.checkpoints NoCkpt c world.frozen_numbers is;
      payloads = found_of (λ d. HasBlocks d.cells) (is_named name) w.checkpoints NoCkpt c world.frozen_payloads is;
      versions = agree-among (is_named name) w.checkpoints NoCkpt c (keeping_of c.kind data') world.frozen_versions is;
    }))

follows : (w : World) → IsWorld w → Primaries w (Follows w)
follows w world = record {
  stays = record { stamp = omega arith; number = omega arith; stamps = world.stamps; numbers = world.numbers; payloads = world.payloads; versions = world.versions };
  counted = record { stamp = omega arith; number = omega arith; stamps = world.stamps; numbers = world.numbers; payloads = world.payloads; versions = world.versions };
  make = λ path. left-follows w world _ (made-edited w world.numbers path (File 0) tt tt);
  mkdir = λ path. left-follows w world _ (made-edited w world.numbers path Dir tt tt);
  rm = λ path. left-follows w world _ (removed-edited w world.numbers path);
  rmdir = λ path. left-follows w world _ (removed_directory-edited w world.numbers path);
  mv = λ path new_path. left-follows w world _ (moved-edited w world.numbers path new_path);
  write = λ path at bytes. left-follows w world _ (overwritten-edited w world.numbers path at bytes);
  trunc = λ path size. left-follows w world _ (truncated-edited w world.numbers path size);
  restore = restored-follows w world;
}

-- ---- the next world

other_name : (c d x y : Checkpoint) → IsLater c x → IsLater d y → IsShown c → IsShown d → c.name ≢ d.name → x.name ≢ y.name
other_name c d x y later also _ _ apart same = apart (sym later.name ∙ same ∙ also.name)

module _ (w next : World) (world : IsWorld w) (h : Follows w next.primary next.next) where
  abbrev IsStamped : Checkpoint → Type 0
  IsStamped c = StampsBelow next.next.stamp c.cells

  abbrev IsNumbered : Checkpoint → Type 0
  IsNumbered c = NumbersBelow next.next.number c.cells

  stamped_later : (c d : Checkpoint) → IsLater c d → IsShown c × StampsBelow w.next.stamp c.cells → IsStamped d
  stamped_later c d later both =
      subst (StampsBelow next.next.stamp) (later.shows c.cells both.0)
      (StampsBelow-more w.next.stamp next.next.stamp (shown_by d.kind c.cells) h.stamp (StampsBelow-shown w.next.stamp d.kind c.cells both.1))

  numbered_later : (c d : Checkpoint) → IsLater c d → IsShown c × NumbersBelow w.next.number c.cells → IsNumbered d
  numbered_later c d later both =
      subst (NumbersBelow next.next.number) (later.shows c.cells both.0)
      (NumbersBelow-more w.next.number next.next.number (shown_by d.kind c.cells) h.number (NumbersBelow-shown w.next.number d.kind c.cells both.1))

  whole_later : (c d : Checkpoint) → IsLater c d → IsShown c × HasBlocks c.cells → HasBlocks d.cells
  whole_later c d later both = subst HasBlocks (later.shows c.cells both.0) (HasBlocks-shown d.kind c.cells both.1)

  agrees_later : (c d : Checkpoint) → IsLater c d → IsShown c × Agree Keeping next.primary c → Agree Keeping next.primary d
  agrees_later c d later both = agree-second Keeping next.primary c d (becomes c d later both.0) both.1

  module _ {ds : List Checkpoint} (remain : Remain w.checkpoints ds) where
    names_remain : EachTwo (λ c d. c.name ≢ d.name) ds
    names_remain = EachTwo-remain IsShown (λ c d. c.name ≢ d.name) other_name remain world.order.marks world.names

    stamps_remain : AllByRecursion IsStamped ds
    stamps_remain = All-remain (λ c. IsShown c × StampsBelow w.next.stamp c.cells) IsStamped stamped_later remain (both IsShown (λ c. StampsBelow w.next.stamp c.cells) w.checkpoints world.order.marks world.frozen_stamps)

    numbers_remain : AllByRecursion IsNumbered ds
    numbers_remain = All-remain (λ c. IsShown c × NumbersBelow w.next.number c.cells) IsNumbered numbered_later remain (both IsShown (λ c. NumbersBelow w.next.number c.cells) w.checkpoints world.order.marks world.frozen_numbers)

    payloads_remain : AllByRecursion (λ c. HasBlocks c.cells) ds
    payloads_remain = All-remain (λ c. IsShown c × HasBlocks c.cells) (λ c. HasBlocks c.cells) whole_later remain (both IsShown (λ c. HasBlocks c.cells) w.checkpoints world.order.marks world.frozen_payloads)

    versions_remain : AllByRecursion (Agree Keeping next.primary) ds
    versions_remain = All-remain (λ c. IsShown c × Agree Keeping next.primary c) (Agree Keeping next.primary) agrees_later remain (both IsShown (Agree Keeping next.primary) w.checkpoints world.order.marks h.versions)

    frozen_versions_remain : EachTwo AgreeTwo ds
    frozen_versions_remain = EachTwo-remain IsShown AgreeTwo agree-later remain world.order.marks world.frozen_versions

  next_name : (c d : Checkpoint) (name : List ℕ) → IsLater c d → c.name ≢ name → d.name ≢ name
  next_name c d name later apart same = apart (sym later.name ∙ same)

  -- the older one and the new one, which shows the primary map
  agrees_new : (c x : Checkpoint) → shown_by x.kind next.primary ≡ x.cells → Agree Keeping next.primary c → AgreeTwo c x
  agrees_new c x shows agrees = subst (λ m. OfOneHistory (shown_by x.kind c.cells) (shown_by c.kind m)) shows (of x.kind)
    where
      turned : OfOneHistory c.cells (shown_by c.kind next.primary)
      turned = OfOneHistory-turned (shown_by c.kind next.primary) c.cells agrees

      of : (kind : Kind) → OfOneHistory (shown_by kind c.cells) (shown_by c.kind (shown_by kind next.primary))
      of Keeping = turned
      of Nodata =
          subst (OfOneHistory (marked c.cells)) (sym (shown-marked c.kind next.primary))
          (subst (OfOneHistory (marked c.cells)) (marked-shown_by c.kind next.primary) (OfOneHistory-marked c.cells (shown_by c.kind next.primary) turned))

  IsWorld-adds : (o : Option ℕ) → Adds w o next → IsWorld next
  IsWorld-adds None adds = record {
    order = IsOrdered-adds w next None adds world.order;
    names = names_remain adds.remain;
    stamps = h.stamps;
    frozen_stamps = stamps_remain adds.remain;
    numbers = h.numbers;
    frozen_numbers = numbers_remain adds.remain;
    payloads = h.payloads;
    frozen_payloads = payloads_remain adds.remain;
    versions = versions_remain adds.remain;
    frozen_versions = frozen_versions_remain adds.remain;
  }
  IsWorld-adds (Some id) adds =
      let one = adds.1 in
      let x = one.new in
      let shows : shown_by x.kind next.primary ≡ x.cells = ap (shown_by x.kind) one.primary ∙ one.cells in
      record {
        order = IsOrdered-adds w next (Some id) adds world.order;
        names = subst (EachTwo (λ c d. c.name ≢ d.name)) (sym one.checkpoints)
            (EachTwo-append (λ c d. c.name ≢ d.name) one.left x (names_remain one.remain)
            (All-remain (λ c. c.name ≢ x.name) (λ c. c.name ≢ x.name) (λ c d later apart. next_name c d x.name later apart) one.remain one.new_name));
        stamps = h.stamps;
        frozen_stamps = subst (AllByRecursion IsStamped) (sym one.checkpoints)
            (All-append IsStamped one.left x (stamps_remain one.remain) (subst (StampsBelow next.next.stamp) shows (StampsBelow-shown next.next.stamp x.kind next.primary h.stamps)));
        numbers = h.numbers;
        frozen_numbers = subst (AllByRecursion IsNumbered) (sym one.checkpoints)
            (All-append IsNumbered one.left x (numbers_remain one.remain) (subst (NumbersBelow next.next.number) shows (NumbersBelow-shown next.next.number x.kind next.primary h.numbers)));
        payloads = h.payloads;
        frozen_payloads = subst (AllByRecursion (λ c. HasBlocks c.cells)) (sym one.checkpoints)
            (All-append (λ c. HasBlocks c.cells) one.left x (payloads_remain one.remain) (subst HasBlocks shows (HasBlocks-shown x.kind next.primary h.payloads)));
        versions = subst (AllByRecursion (Agree Keeping next.primary)) (sym one.checkpoints)
            (All-append (Agree Keeping next.primary) one.left x (versions_remain one.remain)
            (subst (λ m. OfOneHistory (shown_by x.kind next.primary) m) shows (OfOneHistory-itself (shown_by x.kind next.primary))));
        frozen_versions = subst (EachTwo AgreeTwo) (sym one.checkpoints)
            (EachTwo-append AgreeTwo one.left x (frozen_versions_remain one.remain)
            (each_of (Agree Keeping next.primary) (λ c. AgreeTwo c x) (λ c agrees. agrees_new c x shows agrees) one.left (versions_remain one.remain)));
      }

pub calls_keep_worlds_lem : CallsKeepWorlds
calls_keep_worlds_lem texts w actor at call world =
    let outcome = step texts w actor at call in
    IsWorld-adds w outcome.next world (step-primary texts w actor at call (Follows w) (follows w world)) (created_id outcome.reply) (step-sound texts w actor at call).adds

-- the world after an entry
pub IsWorld-after : (texts : Texts) (calls : CallsBy) (past : Past) (entry : Entry) → IsWorld past.world → IsLegalNext texts calls past entry → IsWorld (past_after texts calls past entry).world
IsWorld-after texts calls past entry world legal =
    IsWorld-adds past.world (past_after texts calls past entry).world world (past_after-primary texts calls past entry (Follows past.world) (follows past.world world)) (created_id entry.reply) (past_after-adds texts calls past entry legal)

worlds_stay_from : (texts : Texts) (calls : CallsBy) (past : Past) (history : List Entry) → IsWorld past.world → IsLegalFrom texts calls past history → IsWorld (past_of texts calls past history).world
worlds_stay_from texts calls past [] world legal = world
worlds_stay_from texts calls past (entry ∷ entries) world legal =
    worlds_stay_from texts calls (past_after texts calls past entry) entries (IsWorld-after texts calls past entry world legal.0) legal.1

pub worlds_stay_lem : WorldsStay
worlds_stay_lem texts calls w history world legal = worlds_stay_from texts calls (begun w) history world legal

-- ---- the empty world

root_cell : (key : Key) (cell : Cell) → map.get root_cells key ≡ Some cell → (key ≡ Node 0) × (cell ≡ cell_of 0 Dir)
root_cell key cell is = on (cases_key key (Node 0))
  where
    same_cell : (x y : Cell) → ◌≡◌ {A = Option Cell} (Some x) (Some y) → x ≡ y
    same_cell x y e = cc

    on : (key ≡ Node 0) ⊎ (key ≢ Node 0) → (key ≡ Node 0) × (cell ≡ cell_of 0 Dir)
    on (inl same) = (same, same_cell cell (cell_of 0 Dir) (sym is ∙ ap (map.get root_cells) same ∙ get-insert_same map.empty (Node 0) (cell_of 0 Dir)))
    on (inr apart) =
        let gone : map.get root_cells key ≡ None = get-insert_other map.empty (Node 0) (cell_of 0 Dir) key apart ∙ map.get-empty key_cmp key in
        cc

root_stamps : StampsBelow 1 root_cells
root_stamps key cell is = subst (λ c. c.stamp < 1) (sym (root_cell key cell is).1) (omega arith)

root_numbers : NumbersBelow 1 root_cells
root_numbers key cell is =
    let root = root_cell key cell is in
    (subst (KeyBelow 1) (sym root.0) (omega arith), subst (λ c. ContentBelow 1 c.payload) (sym root.1) tt)

root_payloads : HasBlocks root_cells
root_payloads key cell is = subst (λ c. IsWhole c.payload) (sym (root_cell key cell is).1) tt

pub worlds_begin_lem : WorldsBegin
worlds_begin_lem limits = record {
  order = IsOrdered-empty limits;
  names = tt;
  stamps = root_stamps;
  frozen_stamps = tt;
  numbers = root_numbers;
  frozen_numbers = tt;
  payloads = root_payloads;
  frozen_payloads = tt;
  versions = tt;
  frozen_versions = tt;
}

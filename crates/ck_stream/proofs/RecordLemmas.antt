-- A record that is read is the record that was written, and what was written is read again.
use Rattle.std.proofs.Common.{◌≡◌, ℕ, ◌^◌, ◌<◌, ◌≤◌, Bool, true, false, cond, List, [], ◌∷◌, ◌++◌, length, Option, Result, Ok, refl, sym, ap, subst, ◌∙◌, append_assoc, arith}
use Rattle.std.specs.Prelude.{nat_eq, nat_le, ⊤}
use Rattle.std.specs.Int.{w32, w64, to_be_bytes}
use Rattle.std.proofs.lemmas.Bool.{eqb-true}
use Rattle.std.proofs.lemmas.List.{append-nil}
use Rattle.ck_model.specs.declared.key.Key.{Key}
use Rattle.ck_model.specs.declared.key.Key.TheVariants.{Name, Node, Block}
use Rattle.ck_model.specs.declared.cell.Payload.TheVariants.{To, File, Dir, Bytes}
use Rattle.ck_model.specs.Held.{IsKey}
use Rattle.ck_model.specs.Limits.{file_limit, block_len}
use Rattle.ck_stream.specs.declared.item.Item.{Item}
use Rattle.ck_stream.specs.declared.item.Item.TheVariants.{Put, Removed}
use Rattle.ck_stream.specs.declared.fault.Flaw.{Flaw}
use Rattle.ck_stream.specs.declared.fault.Flaw.TheVariants as flaw
use Rattle.ck_stream.specs.declared.tag.Tag.{Tag}
use Rattle.ck_stream.specs.declared.tag.Tag.TheVariants as tag
use Rattle.ck_stream.specs.Written.{key_text, payload_text, item_text}
use Rattle.ck_stream.specs.Right.{key_of, IsItem, IsPut}
use Rattle.ck_stream.specs.Parsed.{◌>>=◌, number_at, run_at, tag_at, key_at, named_at, size_in, size_at, file_at, bytes_at, item_at, follows, item_in, record_at}
use Rattle.ck_stream.proofs.Names.{Decides-le}
use Rattle.ck_stream.proofs.FieldLemmas.{IsBytes, bind_ok, met, done, ok_is, Takes, Takes-then, NumberTaken, word_takes, word_again, long_takes, long_again, run_takes, run_again}
use Rattle.ck_stream.proofs.KeyLemmas.{kind_of, kind_for, key_takes, name_again, node_again, block_again}

abbrev pub number_of : Tag → ℕ
number_of tag.Name = 1
number_of tag.File = 2
number_of tag.Dir = 3
number_of tag.Block = 4
number_of tag.RemovedName = 5
number_of tag.RemovedNode = 6
number_of tag.RemovedBlock = 7

abbrev pub PutsOnly : Tag → Type 0
PutsOnly tag.Name = ⊤
PutsOnly tag.File = ⊤
PutsOnly tag.Dir = ⊤
PutsOnly tag.Block = ⊤
PutsOnly tag.RemovedName = ⊥
PutsOnly tag.RemovedNode = ⊥
PutsOnly tag.RemovedBlock = ⊥

-- ---- tags

pub record TagRead (full : Bool) (byte : ℕ) (t : Tag) : Type 0 where
  pub number : byte ≡ number_of t
  pub puts : full ≡ true → PutsOnly t

choose : {A : Type 0} (b : Bool) (x y : Result A Flaw) (z : A) (P : Type 0) → cond b x y ≡ Ok z → (b ≡ true → x ≡ Ok z → P) → (b ≡ false → y ≡ Ok z → P) → P
choose true x y z P e so other = so refl e
choose false x y z P e so other = other refl e

found_tag : (full : Bool) (byte n : ℕ) (found t : Tag) → nat_eq byte n ≡ true → n ≡ number_of found → (full ≡ true → PutsOnly found) → done found ≡ done t → TagRead full byte t
found_tag full byte n found t test number puts e =
    subst (λ (x : Tag). TagRead full byte x) (ok_is found t e) (record { number = eqb-true byte n test ∙ number; puts = puts })

tag_takes : (full : Bool) (byte : ℕ) (t : Tag) → tag_at full byte ≡ Ok t → TagRead full byte t
tag_takes full byte t e =
    choose (nat_eq byte 1) _ _ t (TagRead full byte t) e (λ b f. found_tag full byte 1 tag.Name t b refl (λ _. tt) f) (λ _ e.
    choose (nat_eq byte 2) _ _ t (TagRead full byte t) e (λ b f. found_tag full byte 2 tag.File t b refl (λ _. tt) f) (λ _ e.
    choose (nat_eq byte 3) _ _ t (TagRead full byte t) e (λ b f. found_tag full byte 3 tag.Dir t b refl (λ _. tt) f) (λ _ e.
    choose (nat_eq byte 4) _ _ t (TagRead full byte t) e (λ b f. found_tag full byte 4 tag.Block t b refl (λ _. tt) f) (λ _ e.
    choose full _ _ t (TagRead full byte t) e (λ _ f. absurd cc) (λ changed e.
    let never : (P : Type 0) → full ≡ true → P = λ P h. absurd cc in
    choose (nat_eq byte 5) _ _ t (TagRead full byte t) e (λ b f. found_tag full byte 5 tag.RemovedName t b refl (never ⊥) f) (λ _ e.
    choose (nat_eq byte 6) _ _ t (TagRead full byte t) e (λ b f. found_tag full byte 6 tag.RemovedNode t b refl (never ⊥) f) (λ _ e.
    choose (nat_eq byte 7) _ _ t (TagRead full byte t) e (λ b f. found_tag full byte 7 tag.RemovedBlock t b refl (never ⊥) f) (λ _ f. absurd cc))))))))

not_full : (full : Bool) → (full ≡ true → ⊥) → full ≡ false
not_full true h = absurd (h refl)
not_full false h = refl

tag_again : (full : Bool) (t : Tag) → (full ≡ true → PutsOnly t) → tag_at full (number_of t) ≡ Ok t
tag_again full tag.Name puts = refl
tag_again full tag.File puts = refl
tag_again full tag.Dir puts = refl
tag_again full tag.Block puts = refl
tag_again full tag.RemovedName puts = rw (not_full full puts) refl
tag_again full tag.RemovedNode puts = rw (not_full full puts) refl
tag_again full tag.RemovedBlock puts = rw (not_full full puts) refl

-- ---- what stands behind the key

abbrev pub behind : Item → List ℕ
behind (Put key payload) = payload_text payload
behind (Removed key) = []

pub record ItemTaken (t : Tag) (key : Key) (bytes : List ℕ) (read : Item × List ℕ) : Type 0 where
  pub takes : Takes bytes (behind read.0) read.1
  pub key_is : key_of read.0 ≡ key
  pub text : item_text read.0 ≡ number_of t ∷ key_text key ++ behind read.0
  pub right : IsItem read.0
  pub puts : PutsOnly t → IsPut read.0

named_takes : (key : Key) (bytes : List ℕ) (read : Item × List ℕ) → kind_of key ≡ 0 → IsKey key → IsBytes bytes → named_at key bytes ≡ Ok read → ItemTaken tag.Name key bytes read
unfolding named_at
named_takes (Name directory name) bytes read kind right fits e =
    let key : Key = Name directory name in
    let a = bind_ok (number_at w32 bytes) (λ node. Ok (Put key (To node.0), node.1)) read e in
    let first = word_takes bytes a.0 fits a.1 in
    let made : Item × List ℕ = (Put key (To a.0.0), a.0.1) in
    subst (λ (x : Item × List ℕ). ItemTaken tag.Name key bytes x) (ok_is made read a.2) (record { takes = first.takes; key_is = refl; text = refl; right = (right, first.below); puts = λ _. tt })
named_takes (Node node) bytes read kind right fits e = absurd (omega arith)
named_takes (Block node index) bytes read kind right fits e = absurd (omega arith)

size_takes : (bytes : List ℕ) (read : ℕ × List ℕ) → IsBytes bytes → size_at bytes ≡ Ok read → NumberTaken w64 (2 ^ 64) bytes read × (read.0 ≤ file_limit)
unfolding size_at
size_takes bytes read fits e =
    let a = bind_ok (number_at w64 bytes) (λ size. size_in size) read e in
    let m = met (nat_le a.0.0 file_limit) flaw.Wrong (Ok a.0) read a.2 in
    subst (λ (x : ℕ × List ℕ). NumberTaken w64 (2 ^ 64) bytes x × (x.0 ≤ file_limit)) (ok_is a.0 read m.1)
    (long_takes bytes a.0 fits a.1, (Decides-le a.0.0 file_limit).0 m.0)

file_takes : (key : Key) (bytes : List ℕ) (read : Item × List ℕ) → kind_of key ≡ 1 → IsKey key → IsBytes bytes → file_at key bytes ≡ Ok read → ItemTaken tag.File key bytes read
unfolding file_at
file_takes (Name directory name) bytes read kind right fits e = absurd (omega arith)
file_takes (Node node) bytes read kind right fits e =
    let key : Key = Node node in
    let a = bind_ok (size_at bytes) (λ size. Ok (Put key (File size.0), size.1)) read e in
    let made : Item × List ℕ = (Put key (File a.0.0), a.0.1) in
    let first = size_takes bytes a.0 fits a.1 in
    subst (λ (x : Item × List ℕ). ItemTaken tag.File key bytes x) (ok_is made read a.2) (record { takes = first.0.takes; key_is = refl; text = refl; right = (right, first.1); puts = λ _. tt })
file_takes (Block node index) bytes read kind right fits e = absurd (omega arith)

bytes_takes : (key : Key) (bytes : List ℕ) (read : Item × List ℕ) → kind_of key ≡ 2 → IsKey key → IsBytes bytes → bytes_at key bytes ≡ Ok read → ItemTaken tag.Block key bytes read
unfolding bytes_at
bytes_takes (Name directory name) bytes read kind right fits e = absurd (omega arith)
bytes_takes (Node node) bytes read kind right fits e = absurd (omega arith)
bytes_takes (Block node index) bytes read kind right fits e =
    let key : Key = Block node index in
    let a = bind_ok (run_at block_len bytes) (λ run. Ok (Put key (Bytes run.0), run.1)) read e in
    let first = run_takes block_len bytes a.0 fits a.1 in
    let made : Item × List ℕ = (Put key (Bytes a.0.0), a.0.1) in
    subst (λ (x : Item × List ℕ). ItemTaken tag.Block key bytes x) (ok_is made read a.2) (record { takes = first.takes; key_is = refl; text = refl; right = (right, first.len); puts = λ _. tt })

dir_takes : (key : Key) (bytes : List ℕ) (read : Item × List ℕ) → kind_of key ≡ 1 → IsKey key → IsBytes bytes → done (Put key Dir, bytes) ≡ done read → ItemTaken tag.Dir key bytes read
dir_takes (Name directory name) bytes read kind right fits e = absurd (omega arith)
dir_takes (Node node) bytes read kind right fits e =
    let key : Key = Node node in
    let made : Item × List ℕ = (Put key Dir, bytes) in
    subst (λ (x : Item × List ℕ). ItemTaken tag.Dir key bytes x) (ok_is made read e) (record { takes = record { parts = refl; rest_fits = fits }; key_is = refl; text = refl; right = (right, tt); puts = λ _. tt })
dir_takes (Block node index) bytes read kind right fits e = absurd (omega arith)

removed_takes : (t : Tag) (key : Key) (bytes : List ℕ) (read : Item × List ℕ) → item_text (Removed key) ≡ number_of t ∷ key_text key → (PutsOnly t → ⊥) → IsKey key → IsBytes bytes → done (Removed key, bytes) ≡ done read → ItemTaken t key bytes read
removed_takes t key bytes read text removes right fits e =
    let made : Item × List ℕ = (Removed key, bytes) in
    subst (λ (x : Item × List ℕ). ItemTaken t key bytes x) (ok_is made read e) (record {
      takes = record { parts = refl; rest_fits = fits };
      key_is = refl;
      text = text ∙ ap (λ (x : List ℕ). number_of t ∷ x) (sym (append-nil (key_text key)));
      right = right;
      puts = λ p. absurd (removes p);
    })

removed_text : (t : Tag) (key : Key) → kind_of key ≡ kind_for t → (PutsOnly t → ⊥) → item_text (Removed key) ≡ number_of t ∷ key_text key
removed_text tag.Name key kind removes = absurd (removes tt)
removed_text tag.File key kind removes = absurd (removes tt)
removed_text tag.Dir key kind removes = absurd (removes tt)
removed_text tag.Block key kind removes = absurd (removes tt)
removed_text tag.RemovedName (Name directory name) kind removes = refl
removed_text tag.RemovedName (Node node) kind removes = absurd (omega arith)
removed_text tag.RemovedName (Block node index) kind removes = absurd (omega arith)
removed_text tag.RemovedNode (Name directory name) kind removes = absurd (omega arith)
removed_text tag.RemovedNode (Node node) kind removes = refl
removed_text tag.RemovedNode (Block node index) kind removes = absurd (omega arith)
removed_text tag.RemovedBlock (Name directory name) kind removes = absurd (omega arith)
removed_text tag.RemovedBlock (Node node) kind removes = absurd (omega arith)
removed_text tag.RemovedBlock (Block node index) kind removes = refl

item_takes : (t : Tag) (key : Key) (bytes : List ℕ) (read : Item × List ℕ) → kind_of key ≡ kind_for t → IsKey key → IsBytes bytes → item_at t key bytes ≡ Ok read → ItemTaken t key bytes read
unfolding item_at
item_takes tag.Name key bytes read kind right fits e = named_takes key bytes read kind right fits e
item_takes tag.File key bytes read kind right fits e = file_takes key bytes read kind right fits e
item_takes tag.Dir key bytes read kind right fits e = dir_takes key bytes read kind right fits e
item_takes tag.Block key bytes read kind right fits e = bytes_takes key bytes read kind right fits e
item_takes tag.RemovedName key bytes read kind right fits e = removed_takes tag.RemovedName key bytes read (removed_text tag.RemovedName key kind (λ p. p)) (λ p. p) right fits e
item_takes tag.RemovedNode key bytes read kind right fits e = removed_takes tag.RemovedNode key bytes read (removed_text tag.RemovedNode key kind (λ p. p)) (λ p. p) right fits e
item_takes tag.RemovedBlock key bytes read kind right fits e = removed_takes tag.RemovedBlock key bytes read (removed_text tag.RemovedBlock key kind (λ p. p)) (λ p. p) right fits e

-- ---- records

pub record RecordTaken (full : Bool) (last : Option Key) (bytes : List ℕ) (read : Item × List ℕ) : Type 0 where
  pub takes : Takes bytes (item_text read.0) read.1
  pub right : IsItem read.0
  pub puts : full ≡ true → IsPut read.0
  pub order : follows last (key_of read.0) ≡ true

pub record_takes : (full : Bool) (last : Option Key) (byte : ℕ) (bytes : List ℕ) (read : Item × List ℕ) → IsBytes bytes → record_at full last byte bytes ≡ Ok read → RecordTaken full last (byte ∷ bytes) read
unfolding record_at
record_takes full last byte bytes read fits e =
    let a = bind_ok (tag_at full byte) (λ t. key_at t bytes >>= λ key. item_in last t key) read e in
    let b = bind_ok (key_at a.0 bytes) (λ key. item_in last a.0 key) read a.2 in
    let m = met (follows last b.0.0) flaw.Wrong (item_at a.0 b.0.0 b.0.1) read b.2 in
    let t = tag_takes full byte a.0 a.1 in
    let key = key_takes a.0 bytes b.0 fits b.1 in
    let item = item_takes a.0 b.0.0 b.0.1 read key.kind key.right key.takes.rest_fits m.1 in
    let both = Takes-then bytes (key_text b.0.0) b.0.1 (behind read.0) read.1 key.takes item.takes in
    record {
      takes = record { parts = (λ i. t.number i ∷ both.parts i) ∙ ap (λ (x : List ℕ). x ++ read.1) (sym item.text); rest_fits = both.rest_fits };
      right = item.right;
      puts = λ h. item.puts (t.puts h);
      order = ap (follows last) item.key_is ∙ m.0;
    }

-- ---- what was written is read again

abbrev pub tag_of : Item → Tag
tag_of (Put key (To node)) = tag.Name
tag_of (Put key (File size)) = tag.File
tag_of (Put key Dir) = tag.Dir
tag_of (Put key (Bytes bytes)) = tag.Block
tag_of (Removed (Name directory name)) = tag.RemovedName
tag_of (Removed (Node node)) = tag.RemovedNode
tag_of (Removed (Block node index)) = tag.RemovedBlock

record Again (item : Item) (rest : List ℕ) : Type 0 where
  text : item_text item ≡ number_of (tag_of item) ∷ key_text (key_of item) ++ behind item
  key : key_at (tag_of item) (key_text (key_of item) ++ (behind item ++ rest)) ≡ Ok (key_of item, behind item ++ rest)
  item_read : item_at (tag_of item) (key_of item) (behind item ++ rest) ≡ Ok (item, rest)
  puts : IsPut item → PutsOnly (tag_of item)

named_again : (key : Key) (node : ℕ) (rest : List ℕ) → node < 2 ^ 32 → named_at key (to_be_bytes w32 node ++ rest) ≡ Ok (Put key (To node), rest)
unfolding named_at
named_again key node rest right = rw (word_again node rest right) refl

file_again : (key : Key) (size : ℕ) (rest : List ℕ) → size ≤ file_limit → file_at key (to_be_bytes w64 size ++ rest) ≡ Ok (Put key (File size), rest)
unfolding file_at size_at
file_again key size rest right =
    let lt : size < 2 ^ 64 = omega arith in
    rw (long_again size rest lt, (Decides-le size file_limit).1 right) refl

bytes_again : (key : Key) (bytes rest : List ℕ) → length bytes ≡ block_len → bytes_at key (bytes ++ rest) ≡ Ok (Put key (Bytes bytes), rest)
unfolding bytes_at
bytes_again key bytes rest len = rw (run_again block_len bytes rest len) refl

item_again : (item : Item) (rest : List ℕ) → IsItem item → Again item rest
unfolding item_at key_at
item_again (Put (Name directory name) (To node)) rest right = record { text = refl; key = name_again directory name (to_be_bytes w32 node ++ rest) right.0; item_read = named_again (Name directory name) node rest right.1; puts = λ _. tt }
item_again (Put (Name directory name) (File size)) rest right = absurd right.1
item_again (Put (Name directory name) Dir) rest right = absurd right.1
item_again (Put (Name directory name) (Bytes bytes)) rest right = absurd right.1
item_again (Put (Node node) (To other)) rest right = absurd right.1
item_again (Put (Node node) (File size)) rest right = record { text = refl; key = node_again node (to_be_bytes w64 size ++ rest) right.0; item_read = file_again (Node node) size rest right.1; puts = λ _. tt }
item_again (Put (Node node) Dir) rest right = record { text = refl; key = node_again node rest right.0; item_read = refl; puts = λ _. tt }
item_again (Put (Node node) (Bytes bytes)) rest right = absurd right.1
item_again (Put (Block node index) (To other)) rest right = absurd right.1
item_again (Put (Block node index) (File size)) rest right = absurd right.1
item_again (Put (Block node index) Dir) rest right = absurd right.1
item_again (Put (Block node index) (Bytes bytes)) rest right = record { text = refl; key = block_again node index (bytes ++ rest) right.0; item_read = bytes_again (Block node index) bytes rest right.1; puts = λ _. tt }
item_again (Removed (Name directory name)) rest right = record { text = ap (λ (x : List ℕ). 5 ∷ x) (sym (append-nil (key_text (Name directory name)))); key = name_again directory name rest right; item_read = refl; puts = λ p. p }
item_again (Removed (Node node)) rest right = record { text = ap (λ (x : List ℕ). 6 ∷ x) (sym (append-nil (key_text (Node node)))); key = node_again node rest right; item_read = refl; puts = λ p. p }
item_again (Removed (Block node index)) rest right = record { text = ap (λ (x : List ℕ). 7 ∷ x) (sym (append-nil (key_text (Block node index)))); key = block_again node index rest right; item_read = refl; puts = λ p. p }

-- the bytes of a record behind its tag
pub record RecordAgain (full : Bool) (last : Option Key) (item : Item) (rest : List ℕ) : Type 0 where
  pub after : List ℕ
  pub text : item_text item ++ rest ≡ number_of (tag_of item) ∷ after
  pub read : record_at full last (number_of (tag_of item)) after ≡ Ok (item, rest)

pub record_again : (full : Bool) (last : Option Key) (item : Item) (rest : List ℕ) → IsItem item → (full ≡ true → IsPut item) → follows last (key_of item) ≡ true → RecordAgain full last item rest
unfolding record_at
record_again full last item rest right puts order =
    let again = item_again item rest right in
    record {
      after = key_text (key_of item) ++ (behind item ++ rest);
      text = ap (λ (x : List ℕ). x ++ rest) again.text ∙ ap (λ (x : List ℕ). number_of (tag_of item) ∷ x) (append_assoc (key_text (key_of item)) (behind item) rest);
      read = rw (tag_again full (tag_of item) (λ h. again.puts (puts h)), again.key, order) again.item_read;
    }

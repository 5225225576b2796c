-- A key that is read is the key that was written, and what was written is read again.
use Rattle.std.proofs.Common.{◌≡◌, ℕ, ◌^◌, ◌<◌, false, ◌||◌, List, [], ◌∷◌, ◌++◌, length, Ok, refl, sym, ap, subst, ◌∙◌, append_assoc, arith}
use Rattle.std.specs.Prelude.{nat_eq, nat_lt}
use Rattle.std.specs.Int.{w32, to_be_bytes}
use Rattle.std.proofs.lemmas.Bool.Decides.{nat_tests, Decides-ltb}
use Rattle.ck_model.specs.declared.key.Key.{Key}
use Rattle.ck_model.specs.declared.key.Key.TheVariants.{Name, Node, Block}
use Rattle.ck_model.specs.Held.{IsKey, index_limit}
use Rattle.ck_model.specs.Name.{IsFileName}
use Rattle.ck_stream.specs.declared.fault.Flaw.TheVariants as flaw
use Rattle.ck_stream.specs.declared.tag.Tag.{Tag}
use Rattle.ck_stream.specs.declared.tag.Tag.TheVariants as tag
use Rattle.ck_stream.specs.Written.{key_text}
use Rattle.ck_stream.specs.Parsed.{◌>>=◌, number_at, run_at, is_file_name, counted_at, file_name_in, file_name_at, name_at, node_at, index_in, index_at, block_at, key_at}
use Rattle.ck_stream.proofs.Names.{file_name-Decides}
use Rattle.ck_stream.proofs.FieldLemmas.{IsBytes, IsBytes-rest, bind_ok, passed, met, ok_is, Takes, Takes-then, NumberTaken, word_takes, word_again, run_takes, run_again}

pub record NameTaken (bytes : List ℕ) (read : List ℕ × List ℕ) : Type 0 where
  pub takes : Takes bytes (length read.0 ∷ read.0) read.1
  pub right : IsFileName read.0

counted_takes : (bytes : List ℕ) (read : List ℕ × List ℕ) → IsBytes bytes → counted_at bytes ≡ Ok read → Takes bytes (length read.0 ∷ read.0) read.1
unfolding counted_at
counted_takes [] read fits e = absurd cc
counted_takes (count ∷ bytes) read fits e =
    let g = passed (nat_eq count 0 || nat_lt 40 count) flaw.Wrong (run_at count bytes) read e in
    let run = run_takes count bytes read (IsBytes-rest count bytes fits) g.1 in
    record { parts = (λ i. sym run.len i ∷ run.takes.parts i); rest_fits = run.takes.rest_fits }

file_name_takes : (bytes : List ℕ) (read : List ℕ × List ℕ) → IsBytes bytes → file_name_at bytes ≡ Ok read → NameTaken bytes read
unfolding file_name_at
file_name_takes bytes read fits e =
    let a = bind_ok (counted_at bytes) (λ run. file_name_in run) read e in
    let m = met (is_file_name a.0.0) flaw.Wrong (Ok a.0) read a.2 in
    subst (λ (x : List ℕ × List ℕ). NameTaken bytes x) (ok_is a.0 read m.1) (record {
      takes = counted_takes bytes a.0 fits a.1;
      right = (file_name-Decides a.0.0).0 m.0;
    })

file_name_again : (name rest : List ℕ) → IsFileName name → file_name_at (length name ∷ name ++ rest) ≡ Ok (name, rest)
unfolding file_name_at counted_at
file_name_again name rest right =
    let some : nat_eq (length name) 0 ≡ false = let h = right.name.some in grind (arith, nat_tests) in
    let few : nat_lt 40 (length name) ≡ false = let h = right.name.few in grind (arith, nat_tests) in
    rw (some, few, run_again (length name) name rest refl, (file_name-Decides name).1 right) refl

-- which of the three a key is
abbrev pub kind_of : Key → ℕ
kind_of (Name directory name) = 0
kind_of (Node node) = 1
kind_of (Block node index) = 2

abbrev pub kind_for : Tag → ℕ
kind_for tag.Name = 0
kind_for tag.File = 1
kind_for tag.Dir = 1
kind_for tag.Block = 2
kind_for tag.RemovedName = 0
kind_for tag.RemovedNode = 1
kind_for tag.RemovedBlock = 2

pub record KeyTaken (which : ℕ) (bytes : List ℕ) (read : Key × List ℕ) : Type 0 where
  pub takes : Takes bytes (key_text read.0) read.1
  pub right : IsKey read.0
  pub kind : kind_of read.0 ≡ which

name_takes : (bytes : List ℕ) (read : Key × List ℕ) → IsBytes bytes → name_at bytes ≡ Ok read → KeyTaken 0 bytes read
unfolding name_at
name_takes bytes read fits e =
    let a = bind_ok (number_at w32 bytes) (λ directory. file_name_at directory.1 >>= λ name. Ok (Name directory.0 name.0, name.1)) read e in
    let b = bind_ok (file_name_at a.0.1) (λ name. Ok (Name a.0.0 name.0, name.1)) read a.2 in
    let first = word_takes bytes a.0 fits a.1 in
    let second = file_name_takes a.0.1 b.0 first.takes.rest_fits b.1 in
    let made : Key × List ℕ = (Name a.0.0 b.0.0, b.0.1) in
    subst (λ (x : Key × List ℕ). KeyTaken 0 bytes x) (ok_is made read b.2) (record {
      takes = Takes-then bytes (to_be_bytes w32 a.0.0) a.0.1 (length b.0.0 ∷ b.0.0) b.0.1 first.takes second.takes;
      right = (first.below, second.right);
      kind = refl;
    })

node_takes : (bytes : List ℕ) (read : Key × List ℕ) → IsBytes bytes → node_at bytes ≡ Ok read → KeyTaken 1 bytes read
unfolding node_at
node_takes bytes read fits e =
    let a = bind_ok (number_at w32 bytes) (λ node. Ok (Node node.0, node.1)) read e in
    let first = word_takes bytes a.0 fits a.1 in
    let made : Key × List ℕ = (Node a.0.0, a.0.1) in
    subst (λ (x : Key × List ℕ). KeyTaken 1 bytes x) (ok_is made read a.2) (record { takes = first.takes; right = first.below; kind = refl })

index_takes : (bytes : List ℕ) (read : ℕ × List ℕ) → IsBytes bytes → index_at bytes ≡ Ok read → NumberTaken w32 (2 ^ 32) bytes read × (read.0 < index_limit)
unfolding index_at
index_takes bytes read fits e =
    let a = bind_ok (number_at w32 bytes) (λ index. index_in index) read e in
    let m = met (nat_lt a.0.0 index_limit) flaw.Wrong (Ok a.0) read a.2 in
    subst (λ (x : ℕ × List ℕ). NumberTaken w32 (2 ^ 32) bytes x × (x.0 < index_limit)) (ok_is a.0 read m.1)
    (word_takes bytes a.0 fits a.1, (Decides-ltb a.0.0 index_limit).0 m.0)

block_takes : (bytes : List ℕ) (read : Key × List ℕ) → IsBytes bytes → block_at bytes ≡ Ok read → KeyTaken 2 bytes read
unfolding block_at
block_takes bytes read fits e =
    let a = bind_ok (number_at w32 bytes) (λ node. index_at node.1 >>= λ index. Ok (Block node.0 index.0, index.1)) read e in
    let b = bind_ok (index_at a.0.1) (λ index. Ok (Block a.0.0 index.0, index.1)) read a.2 in
    let made : Key × List ℕ = (Block a.0.0 b.0.0, b.0.1) in
    let first = word_takes bytes a.0 fits a.1 in
    let second = index_takes a.0.1 b.0 first.takes.rest_fits b.1 in
    subst (λ (x : Key × List ℕ). KeyTaken 2 bytes x) (ok_is made read b.2) (record {
      takes = Takes-then bytes (to_be_bytes w32 a.0.0) a.0.1 (to_be_bytes w32 b.0.0) b.0.1 first.takes second.0.takes;
      right = (first.below, second.1);
      kind = refl;
    })

pub key_takes : (t : Tag) (bytes : List ℕ) (read : Key × List ℕ) → IsBytes bytes → key_at t bytes ≡ Ok read → KeyTaken (kind_for t) bytes read
unfolding key_at
key_takes tag.Name bytes read fits e = name_takes bytes read fits e
key_takes tag.File bytes read fits e = node_takes bytes read fits e
key_takes tag.Dir bytes read fits e = node_takes bytes read fits e
key_takes tag.Block bytes read fits e = block_takes bytes read fits e
key_takes tag.RemovedName bytes read fits e = name_takes bytes read fits e
key_takes tag.RemovedNode bytes read fits e = node_takes bytes read fits e
key_takes tag.RemovedBlock bytes read fits e = block_takes bytes read fits e

pub name_again : (directory : ℕ) (name rest : List ℕ) → IsKey (Name directory name) → name_at (key_text (Name directory name) ++ rest) ≡ Ok (Name directory name, rest)
unfolding name_at
name_again directory name rest right =
    let regrouped : key_text (Name directory name) ++ rest ≡ to_be_bytes w32 directory ++ (length name ∷ name ++ rest) = append_assoc (to_be_bytes w32 directory) (length name ∷ name) rest in
    ap name_at regrouped ∙ rw (word_again directory (length name ∷ name ++ rest) right.0, file_name_again name rest right.1) refl

pub node_again : (node : ℕ) (rest : List ℕ) → IsKey (Node node) → node_at (key_text (Node node) ++ rest) ≡ Ok (Node node, rest)
unfolding node_at
node_again node rest right = rw (word_again node rest right) refl

pub block_again : (node index : ℕ) (rest : List ℕ) → IsKey (Block node index) → block_at (key_text (Block node index) ++ rest) ≡ Ok (Block node index, rest)
unfolding block_at index_at
block_again node index rest right =
    let regrouped : key_text (Block node index) ++ rest ≡ to_be_bytes w32 node ++ (to_be_bytes w32 index ++ rest) = append_assoc (to_be_bytes w32 node) (to_be_bytes w32 index) rest in
    let word : index < 2 ^ 32 = let h = right.1 in omega arith in
    ap block_at regrouped ∙ rw (word_again node (to_be_bytes w32 index ++ rest) right.0, word_again index rest word, (Decides-ltb index index_limit).1 right.1) refl

-- The stream that is read is the one that was written, and what was written is read again.
use Rattle.std.proofs.Common.{◌≡◌, ℕ, suc, ◌+◌, ◌-◌, ◌^◌, ◌<◌, ◌≤◌, true, List, [], ◌∷◌, ◌++◌, length, drop, None, Result, Ok, Err, refl, sym, ap, subst, ◌∙◌, append_assoc, length-append, length-drop, arith}
use Rattle.std.specs.Prelude.{nat_eq, IfOk}
use Rattle.std.specs.List.{AllByRecursion}
use Rattle.std.specs.Cmp.Lexicographic.{pointwise, bytes_decides}
use Rattle.std.specs.Int.{w64, to_be_bytes}
use Rattle.std.proofs.lemmas.List.{take_at, take-append-drop, append-nil, nil_from_length}
use Rattle.sha2.specs.Sha256.{sha256}
use Rattle.sha2.proofs.Facts256.{length-sha256}
use Rattle.ck_stream.specs.declared.item.Item.{Item}
use Rattle.ck_stream.specs.declared.fault.StreamFault.{StreamFault}
use Rattle.ck_stream.specs.declared.fault.StreamFault.TheVariants as fault
use Rattle.ck_stream.specs.declared.tag.Header.{Header}
use Rattle.ck_stream.specs.declared.tag.Header.TheVariants as header
use Rattle.ck_stream.specs.declared.stream.Stream.{Stream}
use Rattle.ck_stream.specs.declared.stream.Stream.TheVariants as stream
use Rattle.ck_stream.specs.Written.{header_text, items_text, end_text, body, text, StandsIn}
use Rattle.ck_stream.specs.Right.{IsPut, AreItems, IsStream}
use Rattle.ck_stream.specs.Parsed.{◌>>=◌, located, header_at, items_at, is_full, made, end_at, signed, digest_in, stream_at, Gives}
use Rattle.ck_stream.proofs.FieldLemmas.{IsBytes, IsBytes-drop, bind_ok, met, Takes-then}
use Rattle.ck_stream.proofs.ItemsLaws.{located_ok, got, items_take, few_items, items_again}
use Rattle.ck_stream.proofs.HeaderLemmas.{IsHeader, header_takes, header_again, end_takes, end_again}

-- the parts of the body
abbrev parts_of : Header → List Item → List ℕ
parts_of h items = header_text (made h items) ++ (items_text items ++ end_text (length items))

body-made : (h : Header) (items : List Item) → body (made h items) ≡ parts_of h items
unfolding body
body-made (header.Full id) items = refl
body-made (header.Changed earlier later) items = refl

text-made : (h : Header) (items : List Item) → text (made h items) ≡ parts_of h items ++ sha256 (parts_of h items)
unfolding text
text-made h items = ap (λ (b : List ℕ). b ++ sha256 b) (body-made h items)

made_right : (h : Header) (items : List Item) → IsHeader h → AreItems items → (is_full h ≡ true → AllByRecursion IsPut items) → length items < 2 ^ 64 → IsStream (made h items)
made_right (header.Full id) items right are puts few = record { some = right.0; id = right.1; items = are; puts = puts refl; few = few }
made_right (header.Changed earlier later) items right are puts few = record { some = right.0; order = right.1; later = right.2; items = are; few = few }

regrouped : (h i n k r : List ℕ) → ((h ++ (i ++ 0 ∷ [])) ++ (n ++ k)) ++ r ≡ (h ++ (i ++ 0 ∷ n)) ++ (k ++ r)
regrouped h i n k r = simp append_assoc

-- what stands before the digest
signed_is : (whole b k r : List ℕ) → whole ≡ b ++ (k ++ r) → length k ≡ 32 → signed whole (length r) ≡ b
signed_is whole b k r parts len =
    let n : length b ≡ length (b ++ (k ++ r)) - (length r + 32) = omega (arith, length-append b (k ++ r), length-append k r) in
    rw parts (take_at b (k ++ r) (length (b ++ (k ++ r)) - (length r + 32)) n)

stands : (bytes : List ℕ) (at : ℕ) (part rest : List ℕ) → at ≤ length bytes → drop at bytes ≡ part ++ rest → StandsIn bytes at (length bytes - length rest) part
stands bytes at part rest within parts =
    let len : length bytes - at ≡ length part + length rest = sym (length-drop at bytes) ∙ ap length parts ∙ length-append part rest in
    let n : length part ≡ (length bytes - length rest) - at = omega arith in
    record {
      order = omega arith;
      within = omega arith;
      same = rw parts (take_at part rest ((length bytes - length rest) - at) n);
    }

-- what is read is right, and stands there
pub record StreamTaken (bytes : List ℕ) (at : ℕ) (read : Stream × ℕ) : Type 0 where
  pub right : IsStream read.0
  pub stands_there : StandsIn bytes at read.1 (text read.0)

pub stream_takes : (bytes : List ℕ) (at : ℕ) (read : Stream × ℕ) → at ≤ length bytes → IsBytes bytes → stream_at bytes at ≡ Ok read → StreamTaken bytes at read
unfolding stream_at
stream_takes bytes at read within fits e =
    let total = length bytes in
    let whole = drop at bytes in
    let a = bind_ok (located total at (header_at whole)) (λ head. items_at (length head.1) total (is_full head.0) None head.1 >>= λ items. located total (total - suc (length items.1)) (end_at (length items.0) items.1) >>= λ end. digest_in end.0 (sha256 (signed whole (length end.1))) (made head.0 items.0, total - length end.1)) read e in
    let h = a.0 in
    let b = bind_ok (items_at (length h.1) total (is_full h.0) None h.1) (λ items. located total (total - suc (length items.1)) (end_at (length items.0) items.1) >>= λ end. digest_in end.0 (sha256 (signed whole (length end.1))) (made h.0 items.0, total - length end.1)) read a.2 in
    let i = b.0 in
    let c = bind_ok (located total (total - suc (length i.1)) (end_at (length i.0) i.1)) (λ end. digest_in end.0 (sha256 (signed whole (length end.1))) (made h.0 i.0, total - length end.1)) read b.2 in
    let d = c.0 in
    let found = sha256 (signed whole (length d.1)) in
    let answer : Stream × ℕ = (made h.0 i.0, total - length d.1) in
    let m = met (pointwise nat_eq d.0 found) (fault.Digest d.0 found) (Ok answer) read c.2 in
    let head = header_takes whole h (IsBytes-drop at bytes fits) (located_ok total at (header_at whole) h a.1) in
    let first = head.takes i.0 in
    let items = items_take (length h.1) total (is_full h.0) None h.1 i first.rest_fits b.1 in
    let end = end_takes (length i.0) i.1 d items.takes.rest_fits (located_ok total (total - suc (length i.1)) (end_at (length i.0) i.1) d c.1) in
    let front = Takes-then whole (header_text (made h.0 i.0)) h.1 (items_text i.0 ++ 0 ∷ []) i.1 first items.takes in
    let all = Takes-then whole (header_text (made h.0 i.0) ++ (items_text i.0 ++ 0 ∷ [])) i.1 (to_be_bytes w64 (length i.0) ++ d.0) d.1 front end.takes in
    let b' = parts_of h.0 i.0 in
    let parts : whole ≡ b' ++ (d.0 ++ d.1) = all.parts ∙ regrouped (header_text (made h.0 i.0)) (items_text i.0) (to_be_bytes w64 (length i.0)) d.0 d.1 in
    let kept : d.0 ≡ sha256 b' = (bytes_decides d.0 found).0 m.0 ∙ ap sha256 (signed_is whole b' d.0 d.1 parts end.len) in
    let spelled : text (made h.0 i.0) ≡ b' ++ d.0 = text-made h.0 i.0 ∙ ap (λ (k : List ℕ). b' ++ k) (sym kept) in
    let there = stands bytes at (b' ++ d.0) d.1 within (parts ∙ sym (append_assoc b' d.0 d.1)) in
    subst (λ (x : Stream × ℕ). StreamTaken bytes at x) (got answer read m.1) (record {
      right = made_right h.0 i.0 head.right (record { each = items.each; ascend = items.sorted }) items.puts end.few;
      stands_there = subst (λ (t : List ℕ). StandsIn bytes at (total - length d.1) t) (sym spelled) there;
    })

made_again : (bytes : List ℕ) (at e : ℕ) (h : Header) (items : List Item) → at ≤ length bytes → IsHeader h → AreItems items → (is_full h ≡ true → AllByRecursion IsPut items) → length items < 2 ^ 64 → StandsIn bytes at e (text (made h items)) → stream_at bytes at ≡ Ok (made h items, e)
unfolding stream_at
made_again bytes at e h items within right are puts few there =
    let whole = drop at bytes in
    let rest = drop (e - at) whole in
    let b = parts_of h items in
    let digest = sha256 b in
    let after = to_be_bytes w64 (length items) ++ (digest ++ rest) in
    let behind = items_text items ++ 0 ∷ after in
    let split : whole ≡ (b ++ digest) ++ rest = sym (take-append-drop (e - at) whole) ∙ ap (λ (x : List ℕ). x ++ rest) (there.same ∙ text-made h items) in
    let parts : whole ≡ b ++ (digest ++ rest) = split ∙ append_assoc b digest rest in
    let fields : whole ≡ header_text (made h items) ++ behind = parts ∙ simp append_assoc in
    let len : length digest ≡ 32 = length-sha256 b in
    let more : length items < length behind = omega (arith, length-append (items_text items) (0 ∷ after), few_items items) in
    let head : header_at whole ≡ Ok (h, behind) = ap header_at fields ∙ header_again h items behind right in
    let middle = items_again items (length behind) (length bytes) (is_full h) None after are.each puts are.ascend refl more in
    let end = end_again (length items) digest rest few len in
    let sign : signed whole (length rest) ≡ b = signed_is whole b digest rest parts len in
    let test : pointwise nat_eq digest (sha256 (signed whole (length rest))) ≡ true = (bytes_decides digest (sha256 (signed whole (length rest)))).1 (ap sha256 (sym sign)) in
    let rest_len : length rest ≡ (length bytes - at) - (e - at) = length-drop (e - at) whole ∙ ap (λ (n : ℕ). n - (e - at)) (length-drop at bytes) in
    let order = there.order in
    let inside = there.within in
    let place : length bytes - length rest ≡ e = omega (arith, rest_len, order, inside) in
    rw (head, middle, end, test, place) refl

pub stream_again : (bytes : List ℕ) (at e : ℕ) (s : Stream) → at ≤ length bytes → IsStream s → StandsIn bytes at e (text s) → stream_at bytes at ≡ Ok (s, e)
stream_again bytes at e (stream.Full full) within right there =
    made_again bytes at e (header.Full full.id) full.items within (right.some, right.id) right.items (λ _. right.puts) right.few there
stream_again bytes at e (stream.Changed changed) within right there =
    made_again bytes at e (header.Changed changed.from changed.to) changed.items within (right.some, right.order, right.later) right.items (λ h. absurd cc) right.few there

-- ---- what an answer says

pub is_right : (bytes : List ℕ) (at : ℕ) (answer : Result (Stream × ℕ) StreamFault) → at ≤ length bytes → IsBytes bytes → Gives (λ read. read) answer (stream_at bytes at) → IfOk answer (λ read. IsStream read.0)
is_right bytes at (Ok read) within fits e = (stream_takes bytes at read within fits e).right
is_right bytes at (Err why) within fits e = tt

pub is_spelled : (bytes : List ℕ) (at : ℕ) (answer : Result (Stream × ℕ) StreamFault) → at ≤ length bytes → IsBytes bytes → Gives (λ read. read) answer (stream_at bytes at) → IfOk answer (λ read. StandsIn bytes at read.1 (text read.0))
is_spelled bytes at (Ok read) within fits e = (stream_takes bytes at read within fits e).stands_there
is_spelled bytes at (Err why) within fits e = tt

-- ---- no stream begins another

begins : (part behind : List ℕ) → StandsIn (part ++ behind) 0 (length part) part
begins part behind = record { order = omega arith; within = omega (arith, length-append part behind); same = take_at part behind (length part - 0) (omega arith) }

pub none_begins : (s t : Stream) (behind : List ℕ) → IsStream s → IsStream t → text t ≡ text s ++ behind → (behind ≡ []) × (s ≡ t)
none_begins s t behind right other same =
    let bytes = text s ++ behind in
    let first : stream_at bytes 0 ≡ Ok (s, length (text s)) = stream_again bytes 0 (length (text s)) s (omega arith) right (begins (text s) behind) in
    let whole : StandsIn bytes 0 (length (text t)) (text t) =
    subst (λ (b : List ℕ). StandsIn b 0 (length (text t)) (text t)) (append-nil (text t) ∙ same) (begins (text t) []) in
    let second : stream_at bytes 0 ≡ Ok (t, length (text t)) = stream_again bytes 0 (length (text t)) t (omega arith) other whole in
    let read : (s, length (text s)) ≡ (t, length (text t)) = got (s, length (text s)) (t, length (text t)) (sym first ∙ second) in
    let lens : length (text s) ≡ length (text t) = ap (λ (x : Stream × ℕ). x.1) read in
    (nil_from_length behind (omega (arith, length-append (text s) behind, ap length same)), ap (λ (x : Stream × ℕ). x.0) read)

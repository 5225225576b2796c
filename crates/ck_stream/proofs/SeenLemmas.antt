-- A stream whose records are counted is the one that is read, without them.
use Rattle.std.proofs.Common.{◌≡◌, ◌≤◌, ℕ, suc, ◌-◌, true, false, cond, List, length, drop, None, Result, Ok, Err, refl, sym, ap, subst}
use Rattle.std.specs.Prelude.{nat_eq, IfOk}
use Rattle.std.specs.Cmp.Lexicographic.{pointwise}
use Rattle.sha2.specs.Sha256.{sha256}
use Rattle.ck_model.specs.declared.key.Key.{Key}
use Rattle.ck_stream.specs.declared.item.Item.{Item}
use Rattle.ck_stream.specs.declared.fault.Flaw.{Flaw}
use Rattle.ck_stream.specs.declared.fault.StreamFault.{StreamFault}
use Rattle.ck_stream.specs.declared.fault.StreamFault.TheVariants as fault
use Rattle.ck_stream.specs.declared.tag.Header.{Header}
use Rattle.ck_stream.specs.declared.tag.Header.TheVariants as header
use Rattle.ck_stream.specs.declared.stream.Stream.{Stream}
use Rattle.ck_stream.specs.declared.stream.Summary.{Summary}
use Rattle.ck_stream.specs.Parsed.{◌>>=◌, located, header_at, items_at, end_at, is_full, made, signed, digest_in, stream_at}
use Rattle.ck_stream.specs.Right.{key_of}
use Rattle.ck_stream.specs.SeenKey.{keyed}
use Rattle.ck_stream.specs.Seen.{summary_of, TellsOf, seen, counted, seen_at}
use Rattle.ck_stream.proofs.FieldLemmas.{IsBytes, ok_is}
use Rattle.ck_stream.proofs.StreamLemmas.{stream_takes}

summary_made : (h : Header) (items : List Item) → summary_of (made h items) ≡ record { header = h; records = length items }
summary_made (header.Full id) items = refl
summary_made (header.Changed earlier later) items = refl

same_digest : (h : Header) (items : List Item) (kept found : List ℕ) (end : ℕ) → seen (digest_in kept found (made h items, end)) ≡ digest_in kept found (record { header = h; records = length items }, end)
same_digest h items kept found end =
    elim (pointwise nat_eq kept found) as (λ b. seen (cond b (Ok (made h items, end)) (Err (fault.Digest kept found))) ≡ cond b (Ok (record { header = h; records = length items }, end)) (Err (fault.Digest kept found))) [
      | true ↦ ap (λ (s : Summary). Ok (s, end)) (summary_made h items)
      | false ↦ refl
    ]

same_end : (h : Header) (items : List Item) (found : List ℕ → List ℕ) (place : List ℕ → ℕ) (end : Result (List ℕ × List ℕ) StreamFault)
    → seen (end >>= λ e. digest_in e.0 (found e.1) (made h items, place e.1)) ≡ (end >>= λ e. digest_in e.0 (found e.1) (record { header = h; records = length items }, place e.1))
same_end h items found place (Ok e) = same_digest h items e.0 (found e.1) (place e.1)
same_end h items found place (Err f) = refl

same_items : (h : Header) (found : List ℕ → List ℕ) (place : List ℕ → ℕ) (end : ℕ → List ℕ → Result (List ℕ × List ℕ) StreamFault) (read : Result (List Item × List ℕ) StreamFault)
    → seen (read >>= λ items. end (length items.0) items.1 >>= λ e. digest_in e.0 (found e.1) (made h items.0, place e.1))
    ≡ (counted read >>= λ items. end items.0 items.1 >>= λ e. digest_in e.0 (found e.1) (record { header = h; records = items.0 }, place e.1))
same_items h found place end (Ok items) = same_end h items.0 found place (end (length items.0) items.1)
same_items h found place end (Err f) = refl

same_head : (bytes : List ℕ) (at : ℕ) (head : Result (Header × List ℕ) StreamFault)
    → seen (head >>= λ head. items_at (length head.1) (length bytes) (is_full head.0) None head.1 >>= λ items. located (length bytes) (length bytes - suc (length items.1)) (end_at (length items.0) items.1) >>= λ end. digest_in end.0 (sha256 (signed (drop at bytes) (length end.1))) (made head.0 items.0, length bytes - length end.1))
    ≡ (head >>= λ head. counted (items_at (length head.1) (length bytes) (is_full head.0) None head.1) >>= λ items. located (length bytes) (length bytes - suc (length items.1)) (end_at items.0 items.1) >>= λ end. digest_in end.0 (sha256 (signed (drop at bytes) (length end.1))) (record { header = head.0; records = items.0 }, length bytes - length end.1))
same_head bytes at (Ok head) =
    same_items head.0 (λ rest. sha256 (signed (drop at bytes) (length rest))) (λ rest. length bytes - length rest) (λ count rest. located (length bytes) (length bytes - suc (length rest)) (end_at count rest)) (items_at (length head.1) (length bytes) (is_full head.0) None head.1)
same_head bytes at (Err f) = refl

pub seen_is : (bytes : List ℕ) (at : ℕ) → seen (stream_at bytes at) ≡ seen_at bytes at
unfolding stream_at seen_at
seen_is bytes at = same_head bytes at (located (length bytes) at (header_at (drop at bytes)))

-- ---- a record that is passed over is the one that is read

pub keyed_ok : (read : Result (Item × List ℕ) Flaw) (key : Key) (rest : List ℕ) → keyed read ≡ Ok (key, rest) → (item : Item) × (read ≡ Ok (item, rest)) × (key_of item ≡ key)
keyed_ok (Ok x) key rest e =
    let same : (key_of x.0, x.1) ≡ (key, rest) = ok_is (key_of x.0, x.1) (key, rest) e in
    (x.0, (λ i. Ok (x.0, (same i).1)), λ i. (same i).0)
keyed_ok (Err why) key rest e = absurd cc

pub keyed_err : (read : Result (Item × List ℕ) Flaw) (why : Flaw) → keyed read ≡ Err why → read ≡ Err why
keyed_err (Ok x) why e = absurd cc
keyed_err (Err other) why e = let same : other ≡ why = cc in λ i. Err (same i)

-- ---- what an answer says

tells : (bytes : List ℕ) (at : ℕ) (there : Result (Stream × ℕ) StreamFault) (read : Summary × ℕ) → at ≤ length bytes → IsBytes bytes → stream_at bytes at ≡ there → seen there ≡ Ok read → TellsOf bytes at read
tells bytes at (Ok x) read within fits is h =
    let taken = stream_takes bytes at x within fits is in
    let same : (summary_of x.0, x.1) ≡ read = cc in
    subst (λ (read : Summary × ℕ). TellsOf bytes at read) same (record {
      stream = x.0;
      right = taken.right;
      spelled = taken.stands_there;
      told = refl;
    })
tells bytes at (Err f) read within fits is h = absurd cc

pub tells_of : (bytes : List ℕ) (at : ℕ) (answer : Result (Summary × ℕ) StreamFault) → at ≤ length bytes → IsBytes bytes → answer ≡ seen (stream_at bytes at) → IfOk answer (λ read. TellsOf bytes at read)
tells_of bytes at (Ok read) within fits e = tells bytes at (stream_at bytes at) read within fits refl (sym e)
tells_of bytes at (Err why) within fits e = tt

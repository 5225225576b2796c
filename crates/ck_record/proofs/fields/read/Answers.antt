use Rattle.std.proofs.Common.{subst, ap, ◌∙◌}
use Rattle.std.specs.Int.{w32, w64, from_be_bytes}
use Rattle.std.proofs.lemmas.Nat.{from_be_bytes-to_be_bytes_4, from_be_bytes-to_be_bytes_8}
use Rattle.ck_record.proofs.SpelledLemmas.{Stands, found, short_name, same_name}
use Rattle.ck_record.proofs.fields.read.Goals as goal

pub returns : goal.returns
returns c f is e =
    let stands = subst (Stands f) e (found f (short_name f.name is.name)) in
    let fileset = c.get_u32.ensures.value ∙ ap (from_be_bytes w32) stands.fileset ∙ from_be_bytes-to_be_bytes_4 f.fileset is.fileset in
    let stamp = c.get_u64.ensures.value ∙ ap (from_be_bytes w64) stands.stamp ∙ from_be_bytes-to_be_bytes_8 f.stamp is.stamp in
    let first = c.get_u32-2.ensures.value ∙ ap (from_be_bytes w32) stands.first ∙ from_be_bytes-to_be_bytes_4 f.first is.first in
    let second = c.get_u32-3.ensures.value ∙ ap (from_be_bytes w32) stands.second ∙ from_be_bytes-to_be_bytes_4 f.second is.second in
    let name = same_name c.get_name.result f.name _ c.get_name.ensures stands.name is.name in
    let value = c.get_u64-2.ensures.value ∙ ap (from_be_bytes w64) stands.value ∙ from_be_bytes-to_be_bytes_8 f.value is.value in
    let block = c.get_u32-4.ensures.value ∙ ap (from_be_bytes w32) stands.block ∙ from_be_bytes-to_be_bytes_4 f.block is.block in
    λ i. record {
      kind = stands.kind i;
      sub = stands.sub i;
      fileset = fileset i;
      stamp = stamp i;
      first = first i;
      second = second i;
      name = name i;
      value = value i;
      block = block i;
    }

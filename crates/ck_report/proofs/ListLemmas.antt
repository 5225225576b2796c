-- Listings, one line after another.
use Rattle.std.proofs.Common.{◌≡◌, ℕ, suc, ◌+◌, ◌<◌, List, [], ◌∷◌, ◌++◌, length, get_or, drop, drop-cons, refl, sym, ◌∙◌, append_assoc, arith}
use Rattle.std.proofs.lemmas.List.{append-nil}
use Rattle.ck_model.specs.declared.checkpoint.CkptLine.{CkptLine}
use Rattle.ck_report.specs.List.{listing_line, IsDate, IsListing}

-- Behind a text, a listing of these lines gives a listing of all.
pub record IsBegun (all : List CkptLine) (text : List ℕ) (lines : List CkptLine) : Type 0 where
  pub rest : (more : List ℕ) → IsListing lines more → IsListing all (text ++ more)

pub begun : (all : List CkptLine) → IsBegun all [] all
begun all = record { rest = λ more is. is }

-- one line more
pub begun_more : (all : List CkptLine) (text next : List ℕ) (line : CkptLine) (lines : List CkptLine) → IsBegun all text (line ∷ lines) → (date : List ℕ) → IsDate line.ctime date → next ≡ text ++ listing_line line date → IsBegun all next lines
begun_more all text next line lines so_far date is same = record {
  rest = λ more listed. rw (same, append_assoc) (so_far.rest (listing_line line date ++ more) (date, more, is, listed, refl));
}

pub listed : (all : List CkptLine) (text : List ℕ) → IsBegun all text [] → IsListing all text
listed all text so_far = rw (← append-nil text) (so_far.rest [] refl)

-- what a list has from the place of an item on
pub drop_item : {A : Type 0} (xs : List A) (at : ℕ) (x : A) → at < length xs → x ≡ get_or xs at x → drop at xs ≡ x ∷ drop (at + 1) xs
drop_item xs at x within is =
    let next : suc at ≡ at + 1 = omega arith in
    drop-cons xs at x within ∙ (λ i. sym is i ∷ drop (next i) xs)

-- Replies with the same text are the same, but for what the text leaves out.
use Rattle.std.proofs.Common.{◌≡◌, ◌≤◌, ◌<◌, ℕ, ◌+◌, ◌*◌, ◌&&◌, Bool, true, false, List, [], ◌∷◌, ◌++◌, length, drop, slice_index, map as list_map, nat_eq, nat_le, codes, eq-eqb, refl, sym, ap, ◌∙◌, append_assoc, if◌then◌else◌, arith}
use Rattle.std.specs.List.{AllByRecursion, flat_map, list_all}
use Rattle.std.specs.Fmt.{decimal}
use Rattle.std.proofs.lemmas.Bool.Decides.{nat_tests}
use mathlib.Core.Bool.{false≢true}
use Rattle.hex.specs.Hex.{IsBytes, encode_lower}
use Rattle.ck_model.specs.declared.checkpoint.CkptLine.{CkptLine}
use Rattle.ck_model.specs.declared.checkpoint.State.{State}
use Rattle.ck_model.specs.declared.checkpoint.State.TheVariants as state
use Rattle.ck_model.specs.declared.child.Child.{Child}
use Rattle.ck_model.specs.declared.reply.SpaceOf.{SpaceOf}
use Rattle.ck_model.specs.declared.reply.SpaceOf.TheVariants as space
use Rattle.ck_model.specs.declared.reply.Reply.{Reply}
use Rattle.ck_model.specs.declared.reply.Reply.TheVariants as reply
use Rattle.ck_model.specs.Name.{IsName, IsNameByte}
use Rattle.ck_report.specs.Words.{child_words, state_word, keep_word, line_words, space_word, number_words, share_words, checkpoints_words, digest_in, counts_words, stream_words, reply_words}
use Rattle.ck_report.specs.Printed.{IsNumber, IsProper, IsProperLine, IsProperListing, IsProperDirectory, printed_child, printed_reply}
use Rattle.ck_report.proofs.Splits.{Ends, split, IsDigit, number_first, no_digit, no_digit_above, first_digit, bytes_tell, digest_bytes, name_bytes, low_ends_name, slash_ends_name}
use Rattle.ck_report.proofs.Forms.{Answers}

-- names in directories

-- a byte of a word
pub record IsWordByte (byte : ℕ) : Type 0 where
  pub low : 33 ≤ byte

low_ends_word : (byte : ℕ) → byte < 33 → IsWordByte byte → ⊥
low_ends_word byte few is = omega (arith, few, is.low)

-- the slash behind a directory's name
abbrev slash : Bool → List ℕ
slash dir = if dir then 47 ∷ [] else []

word_bytes : (name : List ℕ) (dir : Bool) → AllByRecursion IsNameByte name → AllByRecursion IsWordByte (name ++ slash dir)
word_bytes [] true all = (record { low = omega arith }, tt)
word_bytes [] false all = tt
word_bytes (byte ∷ name) dir all = (record { low = all.0.low }, word_bytes name dir all.1)

plain_bytes : (name : List ℕ) → AllByRecursion IsNameByte name → AllByRecursion IsWordByte name
plain_bytes [] all = tt
plain_bytes (byte ∷ name) all = (record { low = all.0.low }, plain_bytes name all.1)

slash_ends : (dir : Bool) → Ends IsNameByte (slash dir ++ 10 ∷ [])
slash_ends true = slash_ends_name
slash_ends false = low_ends_name 10 (omega arith)

slash_tells : (dir other : Bool) → slash dir ++ 10 ∷ [] ≡ slash other ++ 10 ∷ [] → dir ≡ other
slash_tells true true h = refl
slash_tells true false h = cc
slash_tells false true h = cc
slash_tells false false h = refl

name_tells : (a b : List ℕ) (dir other : Bool) (r s : List ℕ) → IsName a → IsName b → Ends IsWordByte r → Ends IsWordByte s → (a ++ slash dir) ++ r ≡ (b ++ slash other) ++ s → (a ≡ b) × (dir ≡ other) × (r ≡ s)
name_tells a b dir other r s is are over end h =
    let word = split IsWordByte (a ++ slash dir) (b ++ slash other) r s (word_bytes a dir (name_bytes a is)) (word_bytes b other (name_bytes b are)) over end h in
    let name = split IsNameByte a b (slash dir ++ 10 ∷ []) (slash other ++ 10 ∷ []) (name_bytes a is) (name_bytes b are) (slash_ends dir) (slash_ends other)
    (sym (append_assoc a (slash dir) (10 ∷ [])) ∙ ap (λ xs. xs ++ 10 ∷ []) word.0 ∙ append_assoc b (slash other) (10 ∷ [])) in
    (name.0, slash_tells dir other name.1, word.1)

-- a word follows
abbrev begins_spaced : List ℕ → Bool
begins_spaced text = nat_eq (slice_index text 0) 32

children_end : (children : List Child) (r : List ℕ) → Ends IsWordByte (flat_map child_words children ++ 10 ∷ r)
children_end [] r = low_ends_word 10 (omega arith)
children_end (child ∷ children) r = low_ends_word 32 (omega arith)

children_tell : (cs ds : List Child) (r s : List ℕ) → AllByRecursion (λ child. IsName child.name) cs → AllByRecursion (λ child. IsName child.name) ds
    → flat_map child_words cs ++ 10 ∷ r ≡ flat_map child_words ds ++ 10 ∷ s → (list_map printed_child cs ≡ list_map printed_child ds) × (r ≡ s)
children_tell [] [] r s all each h = (refl, ap (drop 1) h)
children_tell [] (d ∷ ds) r s all each h = absurd (false≢true (ap begins_spaced h))
children_tell (c ∷ cs) [] r s all each h = absurd (false≢true (ap begins_spaced (sym h)))
children_tell (c ∷ cs) (d ∷ ds) r s all each h =
    let rest : List Child → List ℕ → List ℕ = λ children more. flat_map child_words children ++ 10 ∷ more in
    let first = name_tells c.name d.name c.dir d.dir (rest cs r) (rest ds s) all.0 each.0 (children_end cs r) (children_end ds s)
    (sym (append_assoc (c.name ++ slash c.dir) (flat_map child_words cs) (10 ∷ r)) ∙ ap (drop 1) h ∙ append_assoc (d.name ++ slash d.dir) (flat_map child_words ds) (10 ∷ s)) in
    let below = children_tell cs ds r s all.1 each.1 first.2 in
    (λ i. record { name = first.0 i; node = 0; dir = first.1 i } ∷ below.0 i, below.1)

-- lists of checkpoints

abbrev no_colon : ℕ → Bool
no_colon byte = if nat_eq byte 58 then false else true

abbrev IsNoColon : ℕ → Type 0
IsNoColon byte = no_colon byte ≡ true

all_pass : (text : List ℕ) → list_all no_colon text ≡ true → AllByRecursion IsNoColon text
all_pass [] h = tt
all_pass (byte ∷ text) h = let parts = both (no_colon byte) (list_all no_colon text) h in (parts.0, all_pass text parts.1)
  where
    both : (b c : Bool) → (b && c) ≡ true → (b ≡ true) × (c ≡ true)
    both true c h = (refl, h)
    both false c h = cc

-- two words before colons
colon_tells : (a b r s : List ℕ) → list_all no_colon a ≡ true → list_all no_colon b ≡ true → a ++ 58 ∷ r ≡ b ++ 58 ∷ s → (a ≡ b) × (r ≡ s)
colon_tells a b r s is are h =
    let apart = split IsNoColon a b (58 ∷ r) (58 ∷ s) (all_pass a is) (all_pass b are) false≢true false≢true h in
    (apart.0, ap (drop 1) apart.1)

state_plain : (st : State) → list_all no_colon (state_word st) ≡ true
state_plain state.Keeping = refl
state_plain state.Nodata = refl
state_plain state.Delayed = refl

state_tells : (a b : State) → state_word a ≡ state_word b → a ≡ b
state_tells state.Keeping state.Keeping h = refl
state_tells state.Nodata state.Nodata h = refl
state_tells state.Delayed state.Delayed h = refl
state_tells _ _ h = cc

keep_plain : (b : Bool) → list_all no_colon (keep_word b) ≡ true
keep_plain true = refl
keep_plain false = refl

keep_tells : (a b : Bool) → keep_word a ≡ keep_word b → a ≡ b
keep_tells true true h = refl
keep_tells false false h = refl
keep_tells _ _ h = cc

line_is : (line : CkptLine) (r : List ℕ) → line_words line ++ r ≡ 32 ∷ (decimal line.id ++ 58 ∷ (state_word line.state ++ 58 ∷ (keep_word line.removable ++ 58 ∷ (decimal line.ctime ++ 58 ∷ (line.name ++ r)))))
line_is line r = simp append_assoc refl

-- a number before a byte that is no digit
pub number_before : (a b byte : ℕ) (r s : List ℕ) → IsNumber a → IsNumber b → (IsDigit byte → ⊥) → decimal a ++ byte ∷ r ≡ decimal b ++ byte ∷ s → (a ≡ b) × (r ≡ s)
number_before a b byte r s is are end h = let first = number_first a b (byte ∷ r) (byte ∷ s) is are end end h in (first.0, ap (drop 1) first.1)

no_digit_58 : IsDigit 58 → ⊥
no_digit_58 = no_digit_above 58 (omega arith)

line_tells : (l m : CkptLine) (r s : List ℕ) → IsProperLine l → IsProperLine m → Ends IsWordByte r → Ends IsWordByte s → line_words l ++ r ≡ line_words m ++ s → (l ≡ m) × (r ≡ s)
line_tells l m r s is are over end h =
    let whole = ap (drop 1) (sym (line_is l r) ∙ h ∙ line_is m s) in
    let id = number_before l.id m.id 58 _ _ is.id are.id no_digit_58 whole in
    let st = colon_tells (state_word l.state) (state_word m.state) _ _ (state_plain l.state) (state_plain m.state) id.1 in
    let keep = colon_tells (keep_word l.removable) (keep_word m.removable) _ _ (keep_plain l.removable) (keep_plain m.removable) st.1 in
    let time = number_before l.ctime m.ctime 58 _ _ is.ctime are.ctime no_digit_58 keep.1 in
    let name = split IsWordByte l.name m.name r s (plain_bytes l.name (name_bytes l.name is.name)) (plain_bytes m.name (name_bytes m.name are.name)) over end time.1 in
    (λ i. record { id = id.0 i; state = state_tells l.state m.state st.0 i; removable = keep_tells l.removable m.removable keep.0 i; ctime = time.0 i; name = name.0 i }, name.1)

lines_end : (lines : List CkptLine) (r : List ℕ) → Ends IsWordByte (flat_map line_words lines ++ 10 ∷ r)
lines_end [] r = low_ends_word 10 (omega arith)
lines_end (line ∷ lines) r = low_ends_word 32 (omega arith)

lines_tell : (ls ms : List CkptLine) (r s : List ℕ) → AllByRecursion IsProperLine ls → AllByRecursion IsProperLine ms
    → flat_map line_words ls ++ 10 ∷ r ≡ flat_map line_words ms ++ 10 ∷ s → (ls ≡ ms) × (r ≡ s)
lines_tell [] [] r s all each h = (refl, ap (drop 1) h)
lines_tell [] (m ∷ ms) r s all each h = absurd (false≢true (ap begins_spaced h))
lines_tell (l ∷ ls) [] r s all each h = absurd (false≢true (ap begins_spaced (sym h)))
lines_tell (l ∷ ls) (m ∷ ms) r s all each h =
    let first = line_tells l m (flat_map line_words ls ++ 10 ∷ r) (flat_map line_words ms ++ 10 ∷ s) all.0 each.0 (lines_end ls r) (lines_end ms s)
    (sym (append_assoc (line_words l) (flat_map line_words ls) (10 ∷ r)) ∙ h ∙ append_assoc (line_words m) (flat_map line_words ms) (10 ∷ s)) in
    let below = lines_tell ls ms r s all.1 each.1 first.1 in
    (λ i. first.0 i ∷ below.0 i, below.1)

-- numbers to the end of a line

pub no_digit_32 : IsDigit 32 → ⊥
no_digit_32 = no_digit 32 (omega arith)

no_digit_10 : IsDigit 10 → ⊥
no_digit_10 = no_digit 10 (omega arith)

pub no_digit_46 : IsDigit 46 → ⊥
no_digit_46 = no_digit 46 (omega arith)

one_number : (a b : ℕ) (r s : List ℕ) → IsNumber a → IsNumber b → decimal a ++ 10 ∷ r ≡ decimal b ++ 10 ∷ s → (a ≡ b) × (r ≡ s)
one_number a b r s is are h = number_before a b 10 r s is are no_digit_10 h

two_numbers : (a b c d : ℕ) (r s : List ℕ) → IsNumber a × IsNumber b → IsNumber c × IsNumber d → (decimal a ++ 32 ∷ decimal b) ++ 10 ∷ r ≡ (decimal c ++ 32 ∷ decimal d) ++ 10 ∷ s → (a ≡ c) × (b ≡ d) × (r ≡ s)
two_numbers a b c d r s is are h =
    let first = number_before a c 32 (decimal b ++ 10 ∷ r) (decimal d ++ 10 ∷ s) is.0 are.0 no_digit_32
    (sym (append_assoc (decimal a) (32 ∷ decimal b) (10 ∷ r)) ∙ h ∙ append_assoc (decimal c) (32 ∷ decimal d) (10 ∷ s)) in
    let last = one_number b d r s is.1 are.1 first.1 in
    (first.0, last.0, last.1)

-- which reply a text is

-- the first bytes of a reply's text, which tell its form
abbrev key : List ℕ → ℕ
key text =
    if nat_eq (slice_index text 0) 79
    then (if nat_eq (slice_index text 2) 10 then 0
    else if nat_le (slice_index text 3) 57 then 1
    else slice_index text 3 * 1000 + (if nat_eq (slice_index text 3) 100 then slice_index text 4 else 0))
    else slice_index text 0 * 1000000000 + slice_index text 1 * 1000000 + slice_index text 2 * 1000 + slice_index text 3
    + (if nat_eq (slice_index text 3) 68 then slice_index text 4 * 1000000000000 else 0)

-- a text of a reply of this form
abbrev sample : Reply → List ℕ
sample reply.Done = codes "Ok\n"
sample reply.Delayed = codes "Ok delayed"
sample (reply.Bytes bytes) = codes "Ok x:"
sample (reply.Names children) = codes "Ok 0"
sample (reply.StatFile node size) = codes "Ok file"
sample (reply.StatDir node count) = codes "Ok dir"
sample (reply.Created id) = codes "Ok id"
sample (reply.Listing lines) = codes "Ok 0"
sample (reply.Info held blocks records limit checkpoints) = codes "Ok held"
sample (reply.Streamed records stream) = codes "Ok records"
sample reply.NotFound = codes "NotFound"
sample reply.NotDir = codes "NotDir"
sample reply.IsDir = codes "IsDir"
sample reply.Exists = codes "Exists"
sample reply.NotEmpty = codes "NotEmpty"
sample reply.Root = codes "Root"
sample (reply.TooBig size limit) = codes "TooBig"
sample reply.NoCkpt = codes "NoCkpt"
sample (reply.TooMany limit) = codes "TooMany"
sample reply.Spent = codes "Spent"
sample reply.InUse = codes "InUse"
sample reply.NotMounted = codes "NotMounted"
sample (reply.Gone id) = codes "Gone"
sample (reply.NoData id) = codes "NoData"
sample (reply.NotNewer first second) = codes "NotNewer"
sample reply.NotData = codes "NotData"
sample (reply.NoSpace what held need limit) = codes "NoSpace"
sample reply.ReadFault = codes "ReadFault"
sample reply.WriteFault = codes "WriteFault"
sample (reply.Broken entries) = codes "Broken"
sample reply.NoMemory = codes "NoMemory"

key_number : (n : ℕ) (a r : List ℕ) → IsNumber n → key (79 ∷ 107 ∷ 32 ∷ ((decimal n ++ a) ++ r)) ≡ 1
key_number n a r small =
    let first = first_digit n small in
    let byte = first.0 in
    let low : nat_le byte 57 ≡ true = grind (arith, nat_tests, first.2.high) in
    ap (λ ds. key (79 ∷ 107 ∷ 32 ∷ ((ds ++ a) ++ r))) first.3
    ∙ ap (λ b. if b then 1 else byte * 1000 + (if nat_eq byte 100 then slice_index ((first.1 ++ a) ++ r) 0 else 0)) low

key_is : (given : Reply) (r : List ℕ) → IsProper given → key (reply_words given ++ 10 ∷ r) ≡ key (sample given)
unfolding counts_words stream_words
key_is (reply.Names children) r is = key_number (length children) (flat_map child_words children) (10 ∷ r) is.count
key_is (reply.Listing lines) r is = key_number (length lines) (flat_map line_words lines) (10 ∷ r) is.count
key_is _ r is = refl

-- replies of each form

share_is : (text : List ℕ) (used limit : ℕ) (r : List ℕ) → share_words text used limit ++ r ≡ text ++ 32 ∷ (decimal used ++ 32 ∷ 111 ∷ 102 ∷ 32 ∷ (decimal limit ++ r))
share_is text used limit r =
    append_assoc (text ++ number_words used ++ codes " of") (number_words limit) r
    ∙ append_assoc (text ++ number_words used) (codes " of") (number_words limit ++ r)
    ∙ append_assoc text (number_words used) (codes " of" ++ (number_words limit ++ r))

counts_is : (a b c d e : ℕ) (r : List ℕ) → counts_words a b c d e ++ r
    ≡ codes "Ok held " ++ (decimal a ++ (codes " of " ++ (decimal b ++ (codes " records " ++ (decimal c ++ (codes " of " ++ (decimal d ++ (codes " checkpoints " ++ (decimal e ++ r)))))))))
unfolding counts_words
counts_is a b c d e r =
    let blocks = share_words (codes "Ok held") a b in
    let records = share_words (codes " records") c d in
    let last = checkpoints_words e in
    append_assoc (blocks ++ records) last r
    ∙ append_assoc blocks records (last ++ r)
    ∙ share_is (codes "Ok held") a b (records ++ (last ++ r))
    ∙ ap (λ text. codes "Ok held " ++ (decimal a ++ (codes " of " ++ (decimal b ++ text)))) (share_is (codes " records") c d (last ++ r))

info_tells : (a b c d e f g h i j : ℕ) (r s : List ℕ) → IsNumber a × IsNumber b × IsNumber c × IsNumber d × IsNumber e → IsNumber f × IsNumber g × IsNumber h × IsNumber i × IsNumber j
    → counts_words a b c d e ++ 10 ∷ r ≡ counts_words f g h i j ++ 10 ∷ s → (reply.Info a b c d e ≡ reply.Info f g h i j) × (r ≡ s)
info_tells a b c d e f g h i j r s is are same =
    let whole = ap (drop 8) (sym (counts_is a b c d e (10 ∷ r)) ∙ same ∙ counts_is f g h i j (10 ∷ s)) in
    let held = number_before a f 32 _ _ is.0 are.0 no_digit_32 whole in
    let blocks = number_before b g 32 _ _ is.1 are.1 no_digit_32 (ap (drop 3) held.1) in
    let records = number_before c h 32 _ _ is.2 are.2 no_digit_32 (ap (drop 8) blocks.1) in
    let limit = number_before d i 32 _ _ is.3 are.3 no_digit_32 (ap (drop 3) records.1) in
    let last = one_number e j r s is.4 are.4 (ap (drop 12) limit.1) in
    (λ t. reply.Info (held.0 t) (blocks.0 t) (records.0 t) (limit.0 t) (last.0 t), last.1)

stream_is : (a : ℕ) (x r : List ℕ) → stream_words a x ++ r ≡ codes "Ok records " ++ (decimal a ++ (codes " sha256 " ++ (encode_lower (digest_in x) ++ r)))
unfolding stream_words
stream_is a x r = simp append_assoc refl

stream_tells : (a b : ℕ) (x y r s : List ℕ) → IsNumber a × IsBytes x → IsNumber b × IsBytes y → stream_words a x ++ 10 ∷ r ≡ stream_words b y ++ 10 ∷ s
    → (reply.Streamed a (digest_in x) ≡ reply.Streamed b (digest_in y)) × (r ≡ s)
stream_tells a b x y r s is are same =
    let whole = ap (drop 11) (sym (stream_is a x (10 ∷ r)) ∙ same ∙ stream_is b y (10 ∷ s)) in
    let first = number_before a b 32 _ _ is.0 are.0 no_digit_32 whole in
    let last = bytes_tell (digest_in x) (digest_in y) r s (digest_bytes x is.1) (digest_bytes y are.1) (ap (drop 7) first.1) in
    (λ t. reply.Streamed (first.0 t) (last.0 t), last.1)

digits_end : (text : List ℕ) → Ends IsWordByte text → Ends IsDigit text
digits_end [] h = h
digits_end (byte ∷ text) h = λ is. h (record { low = omega (arith, is.low) })

names_tell : (cs ds : List Child) (r s : List ℕ) → IsProperDirectory cs → IsProperDirectory ds
    → reply_words (reply.Names cs) ++ 10 ∷ r ≡ reply_words (reply.Names ds) ++ 10 ∷ s → (printed_reply (reply.Names cs) ≡ printed_reply (reply.Names ds)) × (r ≡ s)
names_tell cs ds r s is are h =
    let names : List Child → List ℕ = flat_map child_words in
    let count = number_first (length cs) (length ds) (names cs ++ 10 ∷ r) (names ds ++ 10 ∷ s) is.count are.count (digits_end _ (children_end cs r)) (digits_end _ (children_end ds s))
    (sym (append_assoc (decimal (length cs)) (names cs) (10 ∷ r)) ∙ ap (drop 3) h ∙ append_assoc (decimal (length ds)) (names ds) (10 ∷ s)) in
    let below = children_tell cs ds r s is.each are.each count.1 in
    (ap reply.Names below.0, below.1)

listing_tells : (ls ms : List CkptLine) (r s : List ℕ) → IsProperListing ls → IsProperListing ms
    → reply_words (reply.Listing ls) ++ 10 ∷ r ≡ reply_words (reply.Listing ms) ++ 10 ∷ s → (reply.Listing ls ≡ reply.Listing ms) × (r ≡ s)
listing_tells ls ms r s is are h =
    let texts : List CkptLine → List ℕ = flat_map line_words in
    let count = number_first (length ls) (length ms) (texts ls ++ 10 ∷ r) (texts ms ++ 10 ∷ s) is.count are.count (digits_end _ (lines_end ls r)) (digits_end _ (lines_end ms s))
    (sym (append_assoc (decimal (length ls)) (texts ls) (10 ∷ r)) ∙ ap (drop 3) h ∙ append_assoc (decimal (length ms)) (texts ms) (10 ∷ s)) in
    let below = lines_tell ls ms r s is.each are.each count.1 in
    (ap reply.Listing below.0, below.1)

space_is : (what : SpaceOf) (a b c : ℕ) (r : List ℕ) → reply_words (reply.NoSpace what a b c) ++ r ≡ codes "NoSpace " ++ (space_word what ++ 32 ∷ (decimal a ++ 32 ∷ (decimal b ++ 32 ∷ (decimal c ++ r))))
space_is what a b c r = simp append_assoc refl

numbers_tell : (a b c d e f : ℕ) (r s : List ℕ) → IsNumber a × IsNumber b × IsNumber c → IsNumber d × IsNumber e × IsNumber f
    → decimal a ++ 32 ∷ (decimal b ++ 32 ∷ (decimal c ++ 10 ∷ r)) ≡ decimal d ++ 32 ∷ (decimal e ++ 32 ∷ (decimal f ++ 10 ∷ s)) → (a ≡ d) × (b ≡ e) × (c ≡ f) × (r ≡ s)
numbers_tell a b c d e f r s is are h =
    let first = number_before a d 32 _ _ is.0 are.0 no_digit_32 h in
    let second = number_before b e 32 _ _ is.1 are.1 no_digit_32 first.1 in
    let last = one_number c f r s is.2 are.2 second.1 in
    (first.0, second.0, last.0, last.1)

abbrev says_blocks : List ℕ → Bool
says_blocks text = nat_eq (slice_index text 8) 98

space_tells : (what other : SpaceOf) (a b c d e f : ℕ) (r s : List ℕ) → IsNumber a × IsNumber b × IsNumber c → IsNumber d × IsNumber e × IsNumber f
    → reply_words (reply.NoSpace what a b c) ++ 10 ∷ r ≡ reply_words (reply.NoSpace other d e f) ++ 10 ∷ s → (reply.NoSpace what a b c ≡ reply.NoSpace other d e f) × (r ≡ s)
space_tells space.Blocks space.Blocks a b c d e f r s is are h =
    let all = numbers_tell a b c d e f r s is are (ap (drop 15) (sym (space_is space.Blocks a b c (10 ∷ r)) ∙ h ∙ space_is space.Blocks d e f (10 ∷ s))) in
    (λ t. reply.NoSpace space.Blocks (all.0 t) (all.1 t) (all.2 t), all.3)
space_tells space.Records space.Records a b c d e f r s is are h =
    let all = numbers_tell a b c d e f r s is are (ap (drop 16) (sym (space_is space.Records a b c (10 ∷ r)) ∙ h ∙ space_is space.Records d e f (10 ∷ s))) in
    (λ t. reply.NoSpace space.Records (all.0 t) (all.1 t) (all.2 t), all.3)
space_tells space.Blocks space.Records a b c d e f r s is are h = absurd (false≢true (sym (ap says_blocks h)))
space_tells space.Records space.Blocks a b c d e f r s is are h = absurd (false≢true (ap says_blocks h))

-- where the forms are the same
form_tells : (given other : Reply) (r s : List ℕ) (asks : Bool) → IsProper given → IsProper other → Answers asks given → Answers asks other → nat_eq (key (sample given)) (key (sample other)) ≡ true
    → reply_words given ++ 10 ∷ r ≡ reply_words other ++ 10 ∷ s → (printed_reply given ≡ printed_reply other) × (r ≡ s)
form_tells reply.Done reply.Done r s asks is are answers again form h = (refl, ap (drop 3) h)
form_tells reply.Delayed reply.Delayed r s asks is are answers again form h = (refl, ap (drop 11) h)
form_tells (reply.Bytes x) (reply.Bytes y) r s asks is are answers again form h = let last = bytes_tell x y r s is are (ap (drop 5) h) in (ap reply.Bytes last.0, last.1)
form_tells (reply.Names cs) (reply.Names ds) r s asks is are answers again form h = names_tell cs ds r s is are h
form_tells (reply.Names cs) (reply.Listing ms) r s asks is are answers again form h = absurd (false≢true (answers ∙ sym again))
form_tells (reply.StatFile a b) (reply.StatFile c d) r s asks is are answers again form h = let all = two_numbers a b c d r s is are (ap (drop 8) h) in (λ t. reply.StatFile (all.0 t) (all.1 t), all.2)
form_tells (reply.StatDir a b) (reply.StatDir c d) r s asks is are answers again form h = let all = two_numbers a b c d r s is are (ap (drop 7) h) in (λ t. reply.StatDir (all.0 t) (all.1 t), all.2)
form_tells (reply.Created a) (reply.Created b) r s asks is are answers again form h = let one = one_number a b r s is are (ap (drop 6) h) in (ap reply.Created one.0, one.1)
form_tells (reply.Listing ls) (reply.Names ds) r s asks is are answers again form h = absurd (false≢true (again ∙ sym answers))
form_tells (reply.Listing ls) (reply.Listing ms) r s asks is are answers again form h = listing_tells ls ms r s is are h
form_tells (reply.Info a b c d e) (reply.Info f g i j k) r s asks is are answers again form h = info_tells a b c d e f g i j k r s is are h
form_tells (reply.Streamed a x) (reply.Streamed b y) r s asks is are answers again form h = stream_tells a b x y r s is are h
form_tells reply.NotFound reply.NotFound r s asks is are answers again form h = (refl, ap (drop 9) h)
form_tells reply.NotDir reply.NotDir r s asks is are answers again form h = (refl, ap (drop 7) h)
form_tells reply.IsDir reply.IsDir r s asks is are answers again form h = (refl, ap (drop 6) h)
form_tells reply.Exists reply.Exists r s asks is are answers again form h = (refl, ap (drop 7) h)
form_tells reply.NotEmpty reply.NotEmpty r s asks is are answers again form h = (refl, ap (drop 9) h)
form_tells reply.Root reply.Root r s asks is are answers again form h = (refl, ap (drop 5) h)
form_tells (reply.TooBig a b) (reply.TooBig c d) r s asks is are answers again form h = let all = two_numbers a b c d r s is are (ap (drop 7) h) in (λ t. reply.TooBig (all.0 t) (all.1 t), all.2)
form_tells reply.NoCkpt reply.NoCkpt r s asks is are answers again form h = (refl, ap (drop 7) h)
form_tells (reply.TooMany a) (reply.TooMany b) r s asks is are answers again form h = let one = one_number a b r s is are (ap (drop 8) h) in (ap reply.TooMany one.0, one.1)
form_tells reply.Spent reply.Spent r s asks is are answers again form h = (refl, ap (drop 6) h)
form_tells reply.InUse reply.InUse r s asks is are answers again form h = (refl, ap (drop 6) h)
form_tells reply.NotMounted reply.NotMounted r s asks is are answers again form h = (refl, ap (drop 11) h)
form_tells (reply.Gone a) (reply.Gone b) r s asks is are answers again form h = let one = one_number a b r s is are (ap (drop 5) h) in (ap reply.Gone one.0, one.1)
form_tells (reply.NoData a) (reply.NoData b) r s asks is are answers again form h = let one = one_number a b r s is are (ap (drop 7) h) in (ap reply.NoData one.0, one.1)
form_tells (reply.NotNewer a b) (reply.NotNewer c d) r s asks is are answers again form h = let all = two_numbers a b c d r s is are (ap (drop 9) h) in (λ t. reply.NotNewer (all.0 t) (all.1 t), all.2)
form_tells reply.NotData reply.NotData r s asks is are answers again form h = (refl, ap (drop 8) h)
form_tells (reply.NoSpace what a b c) (reply.NoSpace other d e f) r s asks is are answers again form h = space_tells what other a b c d e f r s is are h
form_tells reply.ReadFault reply.ReadFault r s asks is are answers again form h = (refl, ap (drop 10) h)
form_tells reply.WriteFault reply.WriteFault r s asks is are answers again form h = (refl, ap (drop 11) h)
form_tells (reply.Broken a) (reply.Broken b) r s asks is are answers again form h = let one = one_number a b r s is are (ap (drop 7) h) in (ap reply.Broken one.0, one.1)
form_tells reply.NoMemory reply.NoMemory r s asks is are answers again form h = (refl, ap (drop 9) h)
form_tells _ _ r s asks is are answers again form h = absurd (false≢true form)

-- two replies to one call, each to the end of its line
pub replies_tell : (given other : Reply) (r s : List ℕ) (asks : Bool) → IsProper given → IsProper other → Answers asks given → Answers asks other
    → reply_words given ++ 10 ∷ r ≡ reply_words other ++ 10 ∷ s → (printed_reply given ≡ printed_reply other) × (r ≡ s)
replies_tell given other r s asks is are answers again h =
    form_tells given other r s asks is are answers again (eq-eqb _ _ (sym (key_is given r is) ∙ ap key h ∙ key_is other s are)) h

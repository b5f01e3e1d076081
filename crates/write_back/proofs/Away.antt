-- Parts without a byte of a page change nothing there.
use Rattle.std.proofs.Common.{◌≡◌, ℕ, zero, suc, ◌+◌, ◌/◌, ◌%◌, ◌<◌, ◌≤◌, inl, inr, ◌⊎◌, ⊎_elim, ◌&&◌, Bool, true, false, cond, nat_eq, List, [], ◌∷◌, length, max, min, refl, sym, ◌∙◌, ap, subst, arith}
use Rattle.std.specs.Prelude.{All, count_by}
use Rattle.std.proofs.lemmas.Bool.{and_cases, cases_eq, eq-eqb, le-ltb, or_parts, true≢false}
use Rattle.std.proofs.lemmas.List.Elements.{All-head, All-tail}
use Rattle.std.proofs.lemmas.List.Sums.{sum_by-append, sum_by-cons}
use Rattle.mars_base.specs.Bytes.{put, range}
use Rattle.mars_base.proofs.Puts.{length-put}
use Rattle.array_shape.specs.declared.shape.Shape.{Shape}
use Rattle.array_shape.specs.Places.{data_len, logger_of}
use Rattle.array_shape.specs.Logged.{Part, AllFit, AllPlaced, applied, ranges_of}
use Rattle.row_bytes.specs.declared.ballot.Ballot.{Ballot}
use Rattle.array_shape.specs.NumberSet.{has}
use Rattle.array_image.specs.Joined.{joined}
use Rattle.array_image.proofs.Applied.{applied-append, length-applied}
use Rattle.array_image.proofs.Joined.{joined_more}
use Rattle.array_image.proofs.Data.{all_fit, all_placed-append}
use Rattle.write_back.specs.declared.entry.Entry.{Entry}
use Rattle.write_back.specs.Entries.{AreHeld, IsEntry, ranges_in, parts_in}
use Rattle.write_back.specs.Kept.{lies_on}
use Rattle.write_back.specs.Reading.{meets}
use Rattle.write_back.specs.Turns.{group_parts, in_turn, of_group, parts_in_turn}
use Rattle.write_back.proofs.EntryParts.{firsts_same, rests_same, part_in, parts_placed}
use Rattle.write_back.proofs.Laying.{part_away}
use Rattle.write_back.proofs.Marking.{none_set}

-- parts of the data, once they are applied
pub length_laid : (shape : Shape) (ps : List Part) (whole : List ℕ) → AllPlaced shape ps → length whole ≡ data_len shape → length (applied ps whole) ≡ data_len shape
length_laid shape ps whole placed long = length-applied ps whole (subst (λ (k : ℕ). AllFit k ps) (sym long) (all_fit shape ps placed)) ∙ long

-- an entry off a page has none of its bytes
off_page : (shape : Shape) (addr n : ℕ) → addr % 512 + n ≤ 512 → (e : Entry) → IsEntry shape e → nat_eq (e.addr / 512) (addr / 512) ≡ false → meets addr n e ≡ false
off_page shape addr n page e is off = elim (cases_eq (e.addr / 512) (addr / 512)) [
  | inl same ↦ absurd (true≢false (sym (eq-eqb (e.addr / 512) (addr / 512) same) ∙ off))
  | inr ne ↦ le-ltb (max e.addr addr) (min (e.addr + e.len) (addr + n)) (let one = is.placed.page in omega arith)
]

-- a number of a group has no part on the page of an address
abbrev pub IsOff : (ℕ → List Entry) → ℕ → ℕ → ℕ → Type 0
IsOff entries addr group t = (lies_on (addr / 512) (entries t) ≡ false) ⊎ (has group t ≡ false)

pub none_off : (entries : ℕ → List Entry) (addr group numbers : ℕ) → numbers ≡ 0 → ((t : ℕ) → t < 64 → has numbers t ≡ (lies_on (addr / 512) (entries t) && has group t)) → (t : ℕ) → t < 64 → IsOff entries addr group t
none_off entries addr group numbers zero_is says t lt = and_cases (lies_on (addr / 512) (entries t)) (has group t) (sym (says t lt) ∙ ap (λ (k : ℕ). has k t) zero_is ∙ none_set t)

-- fewer numbers have fewer
pub count_front : (p : Entry → Bool) (f : ℕ → List Entry) (k m : ℕ) → k ≤ m → count_by p (joined f 0 k) ≤ count_by p (joined f 0 m)
count_front p f k zero le = let is : k ≡ zero = omega arith in omega (arith, ap (λ (j : ℕ). count_by p (joined f 0 j)) is)
count_front p f k (suc m) le = ⊎_elim
    (λ is. omega (arith, ap (λ (j : ℕ). count_by p (joined f 0 j)) is))
    (λ ne. omega (arith, count_front p f k m (omega arith), ap (count_by p) (joined_more f 0 m), sum_by-append (λ e. cond (p e) 1 0) (joined f 0 m) (f (0 + m))))
    (cases_eq k (suc m))

-- how many entries meet bytes of one page
module _ (shape : Shape) (entries : ℕ → List Entry) (all : (t : ℕ) → All (IsEntry shape) (entries t)) (addr n : ℕ) (page : addr % 512 + n ≤ 512) where
  none_meets : (es : List Entry) → All (IsEntry shape) es → lies_on (addr / 512) es ≡ false → count_by (meets addr n) es ≡ 0
  none_meets [] each none = refl
  none_meets (e ∷ es) each none =
      let parts = or_parts (nat_eq (e.addr / 512) (addr / 512)) (lies_on (addr / 512) es) none in
      let here : cond {A = ℕ} (meets addr n e) 1 0 ≡ 0 = ap (λ (b : Bool). cond {A = ℕ} b 1 0) (off_page shape addr n page e (All-head (IsEntry shape) e es each) parts.0) in
      omega (arith, sum_by-cons (λ f. cond (meets addr n f) 1 0) e es, here, none_meets es (All-tail (IsEntry shape) e es each) parts.1)

  pub number_count : (group t : ℕ) → IsOff entries addr group t → count_by (meets addr n) (cond (has group t) (entries t) []) ≡ 0
  number_count group t (inr lacks) = ap (λ (b : Bool). count_by (meets addr n) (cond b (entries t) [])) lacks
  number_count group t (inl none) = one (has group t)
    where
      one : (b : Bool) → count_by (meets addr n) (cond b (entries t) []) ≡ 0
      one true = none_meets (entries t) (all t) none
      one false = refl

  some_count : (group k m : ℕ) → k + m ≤ shape.numbers → ((t : ℕ) → t < shape.numbers → IsOff entries addr group t) → count_by (meets addr n) (joined (λ t. cond (has group t) (entries t) []) k m) ≡ 0
  some_count group k zero few off = refl
  some_count group k (suc m) few off =
      omega (
        arith,
        sum_by-append (λ f. cond (meets addr n f) 1 0) (cond (has group k) (entries k) []) (joined (λ t. cond (has group t) (entries t) []) (k + 1) m),
        number_count group k (off k (omega arith)),
        some_count group (k + 1) m (omega arith) off,
      )

  pub group_count : (group : ℕ) → ((t : ℕ) → t < shape.numbers → IsOff entries addr group t) → count_by (meets addr n) (of_group shape entries group) ≡ 0
  group_count group off = some_count group 0 shape.numbers (omega arith) off

  pub turn_count : (queue : List Ballot) → ((t : ℕ) → t < shape.numbers → lies_on (addr / 512) (entries t) ≡ false) → count_by (meets addr n) (in_turn shape entries queue) ≡ 0
  turn_count [] off = refl
  turn_count (b ∷ bs) off =
      omega (arith, sum_by-append (λ f. cond (meets addr n f) 1 0) (of_group shape entries b.group) (in_turn shape entries bs), group_count b.group (λ t lt. inl (off t lt)), turn_count bs off)

-- the parts in the cells of entries
module _ (shape : Shape) (image : List ℕ) (entries : ℕ → List Entry) (held : AreHeld shape image entries) (all : (t : ℕ) → All (IsEntry shape) (entries t)) where
  number_placed : (t : ℕ) → t < shape.numbers → (b : Bool) → AllPlaced shape (cond b (parts_in shape image t (entries t)) [])
  number_placed t lt true = parts_placed shape image t (entries t) (all t) (held t lt)
  number_placed t lt false = tt

  -- those of some numbers of a group, and those of a queue, lie in pages of the data
  pub some_placed : (group k n : ℕ) → k + n ≤ shape.numbers → AllPlaced shape (joined (λ t. cond (has group t) (parts_in shape image t (entries t)) []) k n)
  some_placed group k zero few = tt
  some_placed group k (suc n) few = all_placed-append shape (cond (has group k) (parts_in shape image k (entries k)) []) (joined (λ t. cond (has group t) (parts_in shape image t (entries t)) []) (k + 1) n)
      (number_placed k (omega arith) (has group k)) (some_placed group (k + 1) n (omega arith))

  pub turn_placed : (queue : List Ballot) → AllPlaced shape (parts_in_turn shape image entries queue)
  turn_placed [] = tt
  turn_placed (b ∷ bs) = all_placed-append shape (group_parts shape image entries b.group) (parts_in_turn shape image entries bs) (some_placed b.group 0 shape.numbers (omega arith)) (turn_placed bs)

  module _ (addr n : ℕ) (page : addr % 512 + n ≤ 512) where
    none_laid : (t : ℕ) (es : List Entry) (whole : List ℕ) → length whole ≡ data_len shape → All (IsEntry shape) es → ranges_of (parts_in shape image t es) ≡ ranges_in es → lies_on (addr / 512) es ≡ false
        → range (applied (parts_in shape image t es) whole) addr n ≡ range whole addr n
    none_laid t [] whole long each heads none = refl
    none_laid t (e ∷ es) whole long each heads none =
        let p = part_in shape image t (logger_of shape e.addr) e.cell in
        let parts = or_parts (nat_eq (e.addr / 512) (addr / 512)) (lies_on (addr / 512) es) none in
        let is = All-head (IsEntry shape) e es each in
        let first = firsts_same (p.0, length p.1) (e.addr, e.len) (ranges_of (parts_in shape image t es)) (ranges_in es) heads in
        let rest = rests_same (p.0, length p.1) (e.addr, e.len) (ranges_of (parts_in shape image t es)) (ranges_in es) heads in
        let at : p.0 ≡ e.addr = ap (λ (r : ℕ × ℕ). r.0) first in
        let len : length p.1 ≡ e.len = ap (λ (r : ℕ × ℕ). r.1) first in
        none_laid t es (put whole p.0 p.1) (length-put whole p.0 p.1 (omega (arith, at, len, long, is.placed.inside)) ∙ long) (All-tail (IsEntry shape) e es each) rest parts.1
        ∙ part_away whole e p addr n (λ i. first i ∷ []) (omega (arith, long, is.placed.inside)) (off_page shape addr n page e is parts.0)

    pub number_away : (group t : ℕ) (whole : List ℕ) → t < shape.numbers → length whole ≡ data_len shape → IsOff entries addr group t → range (applied (cond (has group t) (parts_in shape image t (entries t)) []) whole) addr n ≡ range whole addr n
    number_away group t whole lt long (inr lacks) = ap (λ (b : Bool). range (applied (cond b (parts_in shape image t (entries t)) []) whole) addr n) lacks
    number_away group t whole lt long (inl none) = one (has group t)
      where
        one : (b : Bool) → range (applied (cond b (parts_in shape image t (entries t)) []) whole) addr n ≡ range whole addr n
        one true = none_laid t (entries t) whole long (all t) (held t lt) none
        one false = refl

    some_away : (group k m : ℕ) (whole : List ℕ) → k + m ≤ shape.numbers → length whole ≡ data_len shape → ((t : ℕ) → t < shape.numbers → IsOff entries addr group t)
        → range (applied (joined (λ t. cond (has group t) (parts_in shape image t (entries t)) []) k m) whole) addr n ≡ range whole addr n
    some_away group k zero whole few long off = refl
    some_away group k (suc m) whole few long off =
        let ps = cond (has group k) (parts_in shape image k (entries k)) [] in
        let qs = joined (λ t. cond (has group t) (parts_in shape image t (entries t)) []) (k + 1) m in
        ap (λ (d : List ℕ). range d addr n) (applied-append ps qs whole)
        ∙ some_away group (k + 1) m (applied ps whole) (omega arith) (length_laid shape ps whole (number_placed k (omega arith) (has group k)) long) off
        ∙ number_away group k whole (omega arith) long (off k (omega arith))

    pub group_away : (group : ℕ) (whole : List ℕ) → length whole ≡ data_len shape → ((t : ℕ) → t < shape.numbers → IsOff entries addr group t) → range (applied (group_parts shape image entries group) whole) addr n ≡ range whole addr n
    group_away group whole long off = some_away group 0 shape.numbers whole (omega arith) long off

    pub turn_away : (queue : List Ballot) (whole : List ℕ) → length whole ≡ data_len shape → ((t : ℕ) → t < shape.numbers → lies_on (addr / 512) (entries t) ≡ false)
        → range (applied (parts_in_turn shape image entries queue) whole) addr n ≡ range whole addr n
    turn_away [] whole long off = refl
    turn_away (b ∷ bs) whole long off =
        let ps = group_parts shape image entries b.group in
        let qs = parts_in_turn shape image entries bs in
        ap (λ (d : List ℕ). range d addr n) (applied-append ps qs whole)
        ∙ turn_away bs (applied ps whole) (length_laid shape ps whole (some_placed b.group 0 shape.numbers (omega arith)) long) off
        ∙ group_away b.group whole long (λ t lt. inl (off t lt))

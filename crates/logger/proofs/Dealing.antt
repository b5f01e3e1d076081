-- The parts of a write, dealt to the cells of all loggers.
use Rattle.std.proofs.Common.{◌≡◌, ℕ, zero, suc, ◌+◌, ◌-◌, ◌/◌, ◌<◌, ◌≤◌, inl, inr, Bool, List, [], ◌∷◌, ◌++◌, Result, length, get_or, take, drop, map, refl, sym, ◌∙◌, ap, subst, arith}
use Rattle.std.specs.Prelude.{filter, All, IsTrue, IsOk, slice_index, slice_set}
use Rattle.std.proofs.lemmas.Bool.{cases_eq}
use Rattle.std.proofs.lemmas.List.{length-map, length-set, length-take, get_or-set_same, get_or-set_other, take_all}
use Rattle.std.proofs.lemmas.List.Elements.{All-head, All-tail}
use Rattle.std.proofs.Math.Nat.{mod-lt}
use Rattle.pcm_media.specs.View.{View, Writes}
use Rattle.pcm_media.proofs.Writing.{writes_none, writes_on}
use Rattle.array_shape.specs.declared.shape.Shape.{Shape}
use Rattle.array_shape.specs.declared.part.Part.{Part}
use Rattle.array_shape.specs.Places.{data_len, media_len, cell_at}
use Rattle.array_shape.specs.Parts.{IsPartOf, parts_of, is_part_on, parts_on, part_of_write, write_parts_on}
use Rattle.array_shape.proofs.Cutting.{write_parts_on-parts, parts_few, filter_few}
use Rattle.array_shape.specs.Logged.{applied}
use Rattle.array_image.proofs.Joined.{outside_at}
use Rattle.logger.specs.Cells.{cell_writes, cell_ranges, HoldsParts}
use Rattle.logger.specs.Staging.{staged_places}
use Rattle.logger.proofs.Cells.{holds_more, holds_beside}
use Rattle.logger.proofs.Staging.{IsWithin, all_within, done, kept_here, left_here, one_cell, write_part_owned, writes_done}

-- a list at one of its places
pub record SplitsAt {X : Type 0} (k : ℕ) (xs : List X) (x : X) (rest : List X) : Type 0 where
  pub front : take (suc k) xs ≡ take k xs ++ x ∷ []
  pub behind : drop (suc k) xs ≡ rest
  pub long : length (take k xs) ≡ k

pub splits_at : {X : Type 0} (k : ℕ) (xs : List X) (x : X) (rest : List X) → drop k xs ≡ x ∷ rest → SplitsAt k xs x rest
splits_at zero xs x rest is = record { front = ap (take 1) is; behind = ap (drop 1) is; long = refl }
splits_at (suc k) [] x rest is = absurd (omega (arith, ap length is))
splits_at (suc k) (y ∷ xs) x rest is =
    let later = splits_at k xs x rest is in
    record { front = ap (λ (ys : List _). y ∷ ys) later.front; behind = later.behind; long = omega (arith, later.long) }

module _ (shape : Shape) (t addr : ℕ) (bytes : List ℕ) (tells : Bool) (g held : ℕ) where
  abbrev all_here : List (ℕ × List ℕ)
  all_here = write_parts_on shape g addr bytes

  -- of these parts logger g still gets some, the next into this cell; what it got is in its cells
  pub record DealtOn (image : List ℕ) (next : ℕ) (left : List Part) : Type 0 where
    pub from : held ≤ next
    pub cells : next + length (filter (is_part_on g) left) ≡ held + length all_here
    pub rest : drop (next - held) all_here ≡ map (part_of_write addr bytes) (filter (is_part_on g) left)
    pub holds : IsTrue tells → HoldsParts shape image g t held (take (next - held) all_here)

  module _ (old : List ℕ) (next : ℕ) (left : List Part) (part : Part) (rest : List Part) (is_next : left ≡ part ∷ rest) (dealt : DealtOn old next left) where
    -- the next part is another logger's
    pub dealt_beside : (part.logger ≡ g → ⊥) → (new : List ℕ) → (IsTrue tells → HoldsParts shape old g t held (take (next - held) all_here) → HoldsParts shape new g t held (take (next - held) all_here)) → DealtOn new next rest
    dealt_beside ne new stays =
        let gone = left_here g part left rest is_next ne in
        record {
          from = dealt.from;
          cells = omega (arith, dealt.cells, ap length gone);
          rest = dealt.rest ∙ ap (map (part_of_write addr bytes)) gone;
          holds = λ told. stays told (dealt.holds told);
        }

    -- or it is this one's
    module _ (is : part.logger ≡ g) where
      kept : filter (is_part_on g) left ≡ part ∷ filter (is_part_on g) rest
      kept = kept_here g part left rest is_next is

      pub cell_left : next < held + length all_here
      cell_left = omega (arith, dealt.cells, ap length kept)

      here : SplitsAt (next - held) all_here (part_of_write addr bytes part) (map (part_of_write addr bytes) (filter (is_part_on g) rest))
      here = splits_at (next - held) all_here (part_of_write addr bytes part) (map (part_of_write addr bytes) (filter (is_part_on g) rest)) (dealt.rest ∙ ap (map (part_of_write addr bytes)) kept)

      pub dealt_here : (new : List ℕ)
          → (IsTrue tells → HoldsParts shape old g t held (take (next - held) all_here) → HoldsParts shape new g t held (take (next - held) all_here ++ part_of_write addr bytes part ∷ []))
          → DealtOn new (next + 1) rest
      dealt_here new gains =
          let more : next + 1 - held ≡ suc (next - held) = omega (arith, dealt.from) in
          record {
            from = omega (arith, dealt.from);
            cells = omega (arith, dealt.cells, ap length kept);
            rest = ap (λ (k : ℕ). drop k all_here) more ∙ here.behind;
            holds = λ told. subst (HoldsParts shape new g t held) (sym (ap (λ (k : ℕ). take k all_here) more ∙ here.front)) (gains told (dealt.holds told));
          }

      pub taken_long : held + length (take (next - held) all_here) ≡ next
      taken_long = omega (arith, here.long, dealt.from)

-- Where the loop stands: these parts are left, and each logger's next one goes to this cell of it.
pub record DealsAt (shape : Shape) (t : ℕ) (held : List ℕ) (addr : ℕ) (bytes : List ℕ) (tells : Bool) (old now : View) (next : List ℕ) (left : List Part) : Type 0 where
  pub within : All (IsWithin shape addr (length bytes)) left
  pub long : length next ≡ 8
  pub on : (g : ℕ) → g < shape.loggers → DealtOn shape t addr bytes tells g (slice_index held g) now.content.bytes (slice_index next g) left
  pub does : Writes tells (staged_places shape t held addr bytes) old now done

module _ (shape : Shape) (t : ℕ) (small : t < shape.numbers) (held : List ℕ) (addr : ℕ) (bytes : List ℕ) (tells : Bool) (old : View)
    (room : (g : ℕ) → g < shape.loggers → slice_index held g + length (write_parts_on shape g addr bytes) ≤ shape.entries) where
  pub deals_first : addr + length bytes ≤ data_len shape → length held ≡ 8 → DealsAt shape t held addr bytes tells old old held (parts_of shape addr (length bytes))
  deals_first fits long = record {
    within = all_within shape addr (length bytes) fits;
    long = long;
    on = λ g lt.
        let pieces = write_parts_on-parts shape addr bytes g in
        let none : slice_index held g - slice_index held g ≡ 0 = omega arith in
        record {
          from = omega arith;
          cells = omega (arith, ap length pieces, length-map (parts_on shape g addr (length bytes)) (part_of_write addr bytes));
          rest = ap (λ (k : ℕ). drop k (write_parts_on shape g addr bytes)) none ∙ pieces;
          holds = λ told. subst (λ (k : ℕ). HoldsParts shape old.content.bytes g t (slice_index held g) (take k (write_parts_on shape g addr bytes))) (sym none) (record { hold = refl; good = λ k le below. absurd (omega arith) });
        };
    does = writes_none tells (staged_places shape t held addr bytes) old tt;
  }

  -- the cell of the next part
  module _ (now : View) (next : List ℕ) (part : Part) (left rest : List Part) (is_next : left ≡ part ∷ rest) (deals : DealsAt shape t held addr bytes tells old now next left) where
    pub part_within : IsWithin shape addr (length bytes) part
    part_within = All-head (IsWithin shape addr (length bytes)) part rest (subst (All (IsWithin shape addr (length bytes))) is_next deals.within)

    pub logger_there : part.logger < shape.loggers
    logger_there = subst (λ (g : ℕ). g < shape.loggers) (sym part_within.whole.logger) (mod-lt (part.addr / 512) (omega arith))

    at : ℕ
    at = slice_index next part.logger

    its : DealtOn shape t addr bytes tells part.logger (slice_index held part.logger) now.content.bytes (slice_index next part.logger) left
    its = deals.on part.logger logger_there

    its_left : slice_index next part.logger < slice_index held part.logger + length (write_parts_on shape part.logger addr bytes)
    its_left = cell_left shape t addr bytes tells part.logger (slice_index held part.logger) now.content.bytes (slice_index next part.logger) left part rest is_next its refl

    pub cell_there : slice_index next part.logger < shape.entries
    cell_there = omega (arith, its_left, room part.logger logger_there)

    module _ {T E : Type 0} (new : View) (r : Result T E) (does : Writes tells ((cell_at shape part.logger t (slice_index next part.logger), 528) ∷ []) now new r) where
      pub deals_more : Writes tells (staged_places shape t held addr bytes) old new r
      deals_more =
          writes_on tells (staged_places shape t held addr bytes) ((cell_at shape part.logger t (slice_index next part.logger), 528) ∷ []) old now new done r refl
          (λ i out. one_cell shape part.logger t (slice_index held part.logger) (length (write_parts_on shape part.logger addr bytes)) (slice_index next part.logger) its.from its_left i
          (outside_at (λ g. cell_ranges shape g t (slice_index held g) (length (write_parts_on shape g addr bytes))) i 0 shape.loggers out part.logger (omega arith) (omega (arith, logger_there))))
          deals.does does

      pub deals_next : IsOk r → (IsTrue tells → length now.content.bytes ≡ media_len shape) → (piece : List ℕ) → piece ≡ (part_of_write addr bytes part).1
          → (IsTrue tells → new.content.bytes ≡ applied (cell_writes shape part.logger t (slice_index next part.logger) ((part.addr, piece) ∷ [])) now.content.bytes)
          → DealsAt shape t held addr bytes tells old new (slice_set next part.logger (slice_index next part.logger + 1)) rest
      deals_next ok long piece piece_is written = record {
        within = All-tail (IsWithin shape addr (length bytes)) part rest (subst (All (IsWithin shape addr (length bytes))) is_next deals.within);
        long = length-set next part.logger (slice_index next part.logger + 1) ∙ deals.long;
        on = λ g lt. elim (cases_eq part.logger g) [
          | inl is ↦ subst (λ (k : ℕ). DealtOn shape t addr bytes tells g (slice_index held g) new.content.bytes k rest)
              (sym (ap (λ (h : ℕ). get_or (slice_set next h (slice_index next h + 1)) g 0) is ∙ get_or-set_same next g (slice_index next g + 1) 0 (omega (arith, lt, deals.long))))
              (dealt_here shape t addr bytes tells g (slice_index held g) now.content.bytes (slice_index next g) left part rest is_next (deals.on g lt) is new.content.bytes (λ told holds. gains g lt is told holds))
          | inr ne ↦ subst (λ (k : ℕ). DealtOn shape t addr bytes tells g (slice_index held g) new.content.bytes k rest)
              (sym (get_or-set_other next part.logger g (slice_index next part.logger + 1) 0 (λ same. ne (sym same))))
              (dealt_beside shape t addr bytes tells g (slice_index held g) now.content.bytes (slice_index next g) left part rest is_next (deals.on g lt) ne new.content.bytes
              (λ told holds. holds_beside shape g t lt small part.logger (slice_index next part.logger) logger_there cell_there ne (take (slice_index next g - slice_index held g) (write_parts_on shape g addr bytes)) (slice_index held g) now.content.bytes new.content.bytes
              (taken_fits g lt) (does.touched told).bytes holds))
        ];
        does = writes_done tells (staged_places shape t held addr bytes) old new r ok deals_more;
      }
        where
          taken_fits : (g : ℕ) → g < shape.loggers → slice_index held g + length (take (slice_index next g - slice_index held g) (write_parts_on shape g addr bytes)) ≤ shape.entries
          taken_fits g lt = omega (arith, length-take (slice_index next g - slice_index held g) (write_parts_on shape g addr bytes), room g lt)

          gains : (g : ℕ) → g < shape.loggers → part.logger ≡ g → IsTrue tells → HoldsParts shape now.content.bytes g t (slice_index held g) (take (slice_index next g - slice_index held g) (write_parts_on shape g addr bytes))
              → HoldsParts shape new.content.bytes g t (slice_index held g) (take (slice_index next g - slice_index held g) (write_parts_on shape g addr bytes) ++ part_of_write addr bytes part ∷ [])
          gains g lt is told holds =
              let its_long = taken_long shape t addr bytes tells g (slice_index held g) now.content.bytes (slice_index next g) left part rest is_next (deals.on g lt) is in
              let below = cell_left shape t addr bytes tells g (slice_index held g) now.content.bytes (slice_index next g) left part rest is_next (deals.on g lt) is in
              subst (λ (image : List ℕ). HoldsParts shape image g t (slice_index held g) (take (slice_index next g - slice_index held g) (write_parts_on shape g addr bytes) ++ part_of_write addr bytes part ∷ []))
              (sym (written told ∙ (λ i. applied (cell_writes shape (is i) t (same_cell i) ((part.addr, piece_is i) ∷ [])) now.content.bytes)))
              (holds_more shape g t lt small (take (slice_index next g - slice_index held g) (write_parts_on shape g addr bytes)) (part_of_write addr bytes part) (slice_index held g) now.content.bytes (long told)
              (omega (arith, its_long, below, room g lt)) (write_part_owned shape g addr bytes part part_within is) holds)
            where
              same_cell : slice_index next part.logger ≡ slice_index held g + length (take (slice_index next g - slice_index held g) (write_parts_on shape g addr bytes))
              same_cell = ap (slice_index next) is ∙ sym (taken_long shape t addr bytes tells g (slice_index held g) now.content.bytes (slice_index next g) left part rest is_next (deals.on g lt) is)

  -- none is left
  pub deals_last : (now : View) (next : List ℕ) (left : List Part) → left ≡ [] → DealsAt shape t held addr bytes tells old now next left → IsTrue tells → (g : ℕ) → g < shape.loggers → HoldsParts shape now.content.bytes g t (slice_index held g) (write_parts_on shape g addr bytes)
  deals_last now next left none deals told g lt =
      let its = deals.on g lt in
      let all : length (write_parts_on shape g addr bytes) ≤ slice_index next g - slice_index held g = omega (arith, its.cells, its.from, ap (λ (ps : List Part). length (filter (is_part_on g) ps)) none) in
      subst (HoldsParts shape now.content.bytes g t (slice_index held g)) (take_all (slice_index next g - slice_index held g) (write_parts_on shape g addr bytes) all) (its.holds told)

-- Where the count of cells stands: these parts are left, and each logger needs so many cells already.
pub record CountsAt (shape : Shape) (addr len : ℕ) (needed : List ℕ) (left : List Part) : Type 0 where
  pub within : All (IsPartOf shape) left
  pub long : length needed ≡ 8
  pub counted : (g : ℕ) → g < shape.loggers → slice_index needed g + length (filter (is_part_on g) left) ≡ length (parts_on shape g addr len)

module _ (shape : Shape) (addr len : ℕ) (needed : List ℕ) (part : Part) (left rest : List Part) (is_next : left ≡ part ∷ rest) (counts : CountsAt shape addr len needed left) where
  known : IsPartOf shape part
  known = All-head (IsPartOf shape) part rest (subst (All (IsPartOf shape)) is_next counts.within)

  pub counted_logger : part.logger < shape.loggers
  counted_logger = subst (λ (g : ℕ). g < shape.loggers) (sym known.logger) (mod-lt (part.addr / 512) (omega arith))

  pub counted_fits : addr + len ≤ data_len shape → slice_index needed part.logger + 1 < 65536
  counted_fits fits =
      let few = parts_few shape addr len fits in
      let fewer = filter_few (is_part_on part.logger) (parts_of shape addr len) in
      omega (arith, few, fewer, counts.counted part.logger counted_logger, ap length (kept_here part.logger part left rest is_next refl))

  pub counts_next : CountsAt shape addr len (slice_set needed part.logger (slice_index needed part.logger + 1)) rest
  counts_next = record {
    within = All-tail (IsPartOf shape) part rest (subst (All (IsPartOf shape)) is_next counts.within);
    long = length-set needed part.logger (slice_index needed part.logger + 1) ∙ counts.long;
    counted = λ g lt. elim (cases_eq part.logger g) [
      | inl is ↦ omega (
        arith,
        counts.counted g lt,
        ap length (kept_here g part left rest is_next is),
        ap (λ (h : ℕ). get_or (slice_set needed h (slice_index needed h + 1)) g 0) is ∙ get_or-set_same needed g (slice_index needed g + 1) 0 (omega (arith, lt, counts.long)),
      )
      | inr ne ↦ omega (arith, counts.counted g lt, ap length (left_here g part left rest is_next ne), get_or-set_other needed part.logger g (slice_index needed part.logger + 1) 0 (λ same. ne (sym same)))
    ];
  }

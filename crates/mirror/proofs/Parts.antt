-- Logged parts, the ranges where they lie, and how many a logger has.
use Rattle.std.proofs.Common.{◌≡◌, ℕ, zero, suc, ◌+◌, ◌<◌, ◌≤◌, Bool, true, false, cond, nat_eq, List, [], ◌∷◌, ◌++◌, length, get_or, set, take, refl, sym, ◌∙◌, ap, subst, arith}
use Rattle.std.specs.Prelude.{All, filter}
use Rattle.std.proofs.lemmas.List.{take_more, length-map, get_or_default}
use Rattle.std.proofs.lemmas.List.Elements.{All-cons, All-head, All-tail}
use Rattle.mars_base.specs.Bytes.{put}
use Rattle.mars_base.proofs.Puts.{length-put}
use Rattle.array_shape.specs.declared.shape.Shape.{Shape}
use Rattle.array_shape.specs.Places.{data_len, logger_of, IsPlaced}
use Rattle.array_shape.specs.Parts.{parts_of_write, part_of_write, parts_on, is_write_part_on}
use Rattle.array_shape.proofs.Cutting.{filter_few, write_parts_on-parts}
use Rattle.array_shape.specs.Logged.{Part, AllFit, ranges_of}
use Rattle.eaw_face.specs.State.{edited, range_at, is_range_on, count_on}
use Rattle.mirror.specs.Log.{Log, IsWritePart, log_at}

-- the range of the part at a position
pub range_at-parts : (ps : List Part) (pos : ℕ) (d : Part) → pos < length ps → range_at (ranges_of ps) pos ≡ ((get_or ps pos d).0, length (get_or ps pos d).1)
range_at-parts [] pos d lt = absurd (omega arith)
range_at-parts (p ∷ ps) zero d lt = refl
range_at-parts (p ∷ ps) (suc pos) d lt = range_at-parts ps pos d (omega arith)

-- an edit replaces one part
pub edited-set : (ps : List Part) (pos at : ℕ) (bytes : List ℕ) (d : Part) → pos < length ps → set ps pos ((get_or ps pos d).0, put (get_or ps pos d).1 at bytes) ≡ edited pos at bytes ps
edited-set [] pos at bytes d lt = absurd (omega arith)
edited-set (p ∷ ps) zero at bytes d lt = refl
edited-set (p ∷ ps) (suc pos) at bytes d lt = ap (λ (l : List Part). p ∷ l) (edited-set ps pos at bytes d (omega arith))

-- the same, by the part itself
pub range_at-part : (ps : List Part) (pos : ℕ) (part : Part) → pos < length ps → part ≡ get_or ps pos part → range_at (ranges_of ps) pos ≡ (part.0, length part.1)
range_at-part ps pos part lt is = range_at-parts ps pos part lt ∙ (λ i. ((sym is i).0, length (sym is i).1))

pub edited-part : (ps : List Part) (pos at : ℕ) (bytes : List ℕ) (part new : Part) → pos < length ps → part ≡ get_or ps pos part → new ≡ (part.0, put part.1 at bytes) → set ps pos new ≡ edited pos at bytes ps
edited-part ps pos at bytes part new lt is done =
    ap (set ps pos) (done ∙ (λ i. ((is i).0, put (is i).1 at bytes))) ∙ edited-set ps pos at bytes part lt

-- an edit within a part leaves each where it is
pub ranges_of-edited : (ps : List Part) (pos at : ℕ) (bytes : List ℕ) → at + length bytes ≤ (range_at (ranges_of ps) pos).1 → ranges_of (edited pos at bytes ps) ≡ ranges_of ps
ranges_of-edited [] pos at bytes within = refl
ranges_of-edited (p ∷ ps) zero at bytes within = ap (λ (n : ℕ). (p.0, n) ∷ ranges_of ps) (length-put p.1 at bytes within)
ranges_of-edited (p ∷ ps) (suc pos) at bytes within = ap (λ (l : List (ℕ × ℕ)). (p.0, length p.1) ∷ l) (ranges_of-edited ps pos at bytes within)

pub length-ranges_of : (ps : List Part) → length (ranges_of ps) ≡ length ps
length-ranges_of [] = refl
length-ranges_of (p ∷ ps) = ap suc (length-ranges_of ps)

pub ranges_of-append : (ps qs : List Part) → ranges_of (ps ++ qs) ≡ ranges_of ps ++ ranges_of qs
ranges_of-append [] qs = refl
ranges_of-append (p ∷ ps) qs = ap (λ (l : List (ℕ × ℕ)). (p.0, length p.1) ∷ l) (ranges_of-append ps qs)

pub ranges_of-take : (n : ℕ) (ps : List Part) → ranges_of (take n ps) ≡ take n (ranges_of ps)
ranges_of-take zero ps = refl
ranges_of-take (suc n) [] = refl
ranges_of-take (suc n) (p ∷ ps) = ap (λ (l : List (ℕ × ℕ)). (p.0, length p.1) ∷ l) (ranges_of-take n ps)

module _ (shape : Shape) where
  -- the parts that a logger has are those whose ranges it has
  pub count_on-write_parts : (g : ℕ) (ps : List Part) → count_on shape g (ranges_of ps) ≡ length (filter (is_write_part_on shape g) ps)
  count_on-write_parts g [] = refl
  count_on-write_parts g (p ∷ ps) = go (nat_eq (logger_of shape p.0) g) (count_on-write_parts g ps)
    where
      go : (on : Bool) → count_on shape g (ranges_of ps) ≡ length (filter (is_write_part_on shape g) ps)
          → length (cond on ((p.0, length p.1) ∷ filter (is_range_on shape g) (ranges_of ps)) (filter (is_range_on shape g) (ranges_of ps)))
          ≡ length (cond on (p ∷ filter (is_write_part_on shape g) ps) (filter (is_write_part_on shape g) ps))
      go true is = ap suc is
      go false is = is

  pub count_on-few : (g : ℕ) (ps : List Part) → count_on shape g (ranges_of ps) ≤ length ps
  count_on-few g ps = omega (arith, filter_few (is_range_on shape g) (ranges_of ps), length-ranges_of ps)

  pub count_on-append : (g : ℕ) (rs ss : List (ℕ × ℕ)) → count_on shape g (rs ++ ss) ≡ count_on shape g rs + count_on shape g ss
  count_on-append g [] ss = omega arith
  count_on-append g (r ∷ rs) ss = go (nat_eq (logger_of shape r.0) g) (count_on-append g rs ss)
    where
      go : (on : Bool) → count_on shape g (rs ++ ss) ≡ count_on shape g rs + count_on shape g ss
          → length (cond on (r ∷ filter (is_range_on shape g) (rs ++ ss)) (filter (is_range_on shape g) (rs ++ ss)))
          ≡ length (cond on (r ∷ filter (is_range_on shape g) rs) (filter (is_range_on shape g) rs)) + count_on shape g ss
      go true is = omega arith
      go false is = is

  -- one more part of a list that is walked
  pub count_on-more : (g : ℕ) (ps : List Part) (i : ℕ) (d : Part) → i < length ps
      → count_on shape g (ranges_of (take (i + 1) ps)) ≡ count_on shape g (ranges_of (take i ps)) + cond (nat_eq (logger_of shape (get_or ps i d).0) g) 1 0
  count_on-more g ps i d lt =
      ap (λ (l : List Part). count_on shape g (ranges_of l)) (take_more ps i d lt)
      ∙ ap (count_on shape g) (ranges_of-append (take i ps) (get_or ps i d ∷ []))
      ∙ count_on-append g (ranges_of (take i ps)) (ranges_of (get_or ps i d ∷ []))
      ∙ one (nat_eq (logger_of shape (get_or ps i d).0) g)
    where
      one : (on : Bool) → count_on shape g (ranges_of (take i ps)) + length (cond on (ranges_of (get_or ps i d ∷ [])) []) ≡ count_on shape g (ranges_of (take i ps)) + cond on 1 0
      one true = refl
      one false = refl

  -- how many parts of a write a logger has
  pub count_on-write : (g addr : ℕ) (bytes : List ℕ) → count_on shape g (ranges_of (parts_of_write addr bytes)) ≡ length (parts_on shape g addr (length bytes))
  count_on-write g addr bytes =
      count_on-write_parts g (parts_of_write addr bytes) ∙ ap length (write_parts_on-parts shape addr bytes g) ∙ length-map (parts_on shape g addr (length bytes)) (part_of_write addr bytes)

  abbrev IsThere : ℕ × ℕ → Type 0
  IsThere r = IsPlaced shape r.0 r.1

  placed_from : (ps qs : List Part) → ranges_of qs ≡ ranges_of ps → All (IsWritePart shape) ps → All (IsWritePart shape) qs
  placed_from [] [] same placed = placed
  placed_from [] (q ∷ qs) same placed = absurd (cc same)
  placed_from (p ∷ ps) [] same placed = absurd (cc same)
  placed_from (p ∷ ps) (q ∷ qs) same placed =
      let rest : ranges_of qs ≡ ranges_of ps = cc same in
      All-cons (IsWritePart shape) q qs (subst IsThere (head_is (q.0, length q.1) (p.0, length p.1) (ranges_of qs) (ranges_of ps) (sym same)) (All-head (IsWritePart shape) p ps placed)) (placed_from ps qs rest (All-tail (IsWritePart shape) p ps placed))
    where
      head_is : (r s : ℕ × ℕ) (rs ss : List (ℕ × ℕ)) → s ∷ ss ≡ r ∷ rs → s ≡ r
      head_is r s rs ss is = cc is

  pub placed_edited : (ps : List Part) (pos at : ℕ) (bytes : List ℕ) → at + length bytes ≤ (range_at (ranges_of ps) pos).1 → All (IsWritePart shape) ps → All (IsWritePart shape) (edited pos at bytes ps)
  placed_edited ps pos at bytes within placed = placed_from ps (edited pos at bytes ps) (ranges_of-edited ps pos at bytes within) placed

  -- parts that lie in the data fit it
  pub all_fit : (ps : List Part) → All (IsWritePart shape) ps → AllFit (data_len shape) ps
  all_fit [] placed = tt
  all_fit (p ∷ ps) placed = ((All-head (IsWritePart shape) p ps placed).inside, all_fit ps (All-tail (IsWritePart shape) p ps placed))

-- a log that was read from the list
pub log_is : (logs : List Log) (t n : ℕ) (log : Log) → t < length logs → n ≡ t → log ≡ get_or logs n log → log ≡ log_at logs t
log_is logs t n log lt is read = read ∙ ap (λ (k : ℕ). get_or logs k log) is ∙ get_or_default logs t log (record { is_live = false; parts = []; room = 0 }) lt

-- The parts of a write that go to cells, one after another.
use Rattle.std.proofs.Common.{◌≡◌, ℕ, zero, suc, ◌+◌, ◌-◌, ◌<◌, ◌≤◌, Bool, cond, List, [], ◌∷◌, Result, Ok, Err, length, drop, inl, inr, sym, ◌∙◌, ap, subst, arith}
use Rattle.std.specs.Prelude.{filter, All, IsOk}
use Rattle.std.proofs.lemmas.Bool.{eq-eqb, ne_eqb, cases_eq, false≢true}
use Rattle.std.proofs.lemmas.List.{length-drop, length-take-le}
use Rattle.std.proofs.lemmas.List.Elements.{All-nil, All-cons}
use Rattle.mars_base.specs.Causes.{HasCause}
use Rattle.mars_base.specs.declared.Failed.{Failed}
use Rattle.pcm_media.specs.Images.{IsOutside}
use Rattle.pcm_media.specs.View.{View, Writes}
use Rattle.array_shape.specs.declared.shape.Shape.{Shape}
use Rattle.array_shape.specs.declared.part.Part.{Part}
use Rattle.array_shape.specs.Places.{data_len, cell_at}
use Rattle.array_shape.specs.Parts.{Tile, IsPartOf, parts_of, is_part_on, part_of_write}
use Rattle.array_shape.proofs.Cutting.{parts_tile, parts_placed}
use Rattle.array_shape.specs.Logged.{IsOwned}
use Rattle.logger.specs.Cells.{cell_ranges}

module _ (g : ℕ) (part : Part) (s rest : List Part) (next : s ≡ part ∷ rest) where
  -- a part of this logger, and one of another
  pub kept_here : part.logger ≡ g → filter (is_part_on g) s ≡ part ∷ filter (is_part_on g) rest
  kept_here is =
      ap (filter (is_part_on g)) next
      ∙ ap (λ (b : Bool). cond b (part ∷ filter (is_part_on g) rest) (filter (is_part_on g) rest)) (eq-eqb part.logger g is)

  pub left_here : (part.logger ≡ g → ⊥) → filter (is_part_on g) s ≡ filter (is_part_on g) rest
  left_here ne =
      ap (filter (is_part_on g)) next
      ∙ ap (λ (b : Bool). cond b (part ∷ filter (is_part_on g) rest) (filter (is_part_on g) rest)) (ne_eqb part.logger g ne)

-- a part of the range of `len` bytes at an address
pub record IsWithin (shape : Shape) (addr len : ℕ) (part : Part) : Type 0 where
  pub from : addr ≤ part.addr
  pub to : part.addr + part.len ≤ addr + len
  pub whole : IsPartOf shape part

abbrev LiesIn : ℕ → ℕ → Part → Type 0
LiesIn from to part = (from ≤ part.addr) × (part.addr + part.len ≤ to)

tiles_lie : (from to addr len : ℕ) (ps : List Part) → from ≤ addr → addr + len ≤ to → Tile addr len ps → All (LiesIn from to) ps
tiles_lie from to addr len [] le fits tile = All-nil (LiesIn from to)
tiles_lie from to addr len (p ∷ ps) le fits tile =
    All-cons (LiesIn from to) p ps (omega (arith, tile.0, tile.1), omega (arith, tile.0, tile.1)) (tiles_lie from to (addr + p.len) (len - p.len) ps (omega arith) (omega (arith, tile.1)) tile.2)

pub all_within : (shape : Shape) (addr len : ℕ) → addr + len ≤ data_len shape → All (IsWithin shape addr len) (parts_of shape addr len)
all_within shape addr len fits =
    let lie = tiles_lie addr (addr + len) addr len (parts_of shape addr len) (omega arith) (omega arith) (parts_tile shape addr len) in
    λ k d lt. record { from = (lie k d lt).0; to = (lie k d lt).1; whole = parts_placed shape addr len fits k d lt }

-- the answer of a medium that was not called, or did what was asked
abbrev pub done : Result (Unit {0}) Failed
done = Ok tt

-- a cell is one of a row of cells
pub one_cell : (shape : Shape) (g t e n k : ℕ) → e ≤ k → k < e + n → (i : ℕ) → IsOutside (cell_ranges shape g t e n) i → IsOutside ((cell_at shape g t k, 528) ∷ []) i
one_cell shape g t e zero k le lt i out = absurd (omega arith)
one_cell shape g t e (suc n) k le lt i out = elim (cases_eq k e) [
  | inl is ↦ (subst (λ (j : ℕ). cell_at shape g t j ≤ i → i < cell_at shape g t j + 528 → ⊥) (sym is) out.0, tt)
  | inr ne ↦ one_cell shape g t (e + 1) n k (omega arith) (omega arith) i out.1
]

-- what was done, if the last call succeeded
pub writes_done : {T E : Type 0} (tells : Bool) (ranges : List (ℕ × ℕ)) (old new : View) (r : Result T E) → IsOk r → Writes tells ranges old new r → Writes tells ranges old new done
writes_done tells ranges old new r ok does = record { size = does.size; device = does.device; cause = done_cause old.faults new.faults r ok does.cause; touched = does.touched; time = does.time }
  where
    done_cause : {T E : Type 0} (before now : ℕ) (r : Result T E) → IsOk r → HasCause before now r → HasCause before now done
    done_cause before now (Ok x) ok cause = record { later = cause.later; failed = tt; kept = cause.kept }
    done_cause before now (Err e) ok cause = absurd (false≢true ok)

-- the pieces that a logger has are parts of it
module _ (shape : Shape) (g addr : ℕ) (bytes : List ℕ) where
  pub write_part_owned : (part : Part) → IsWithin shape addr (length bytes) part → part.logger ≡ g → IsOwned shape g part.addr (length (part_of_write addr bytes part).1)
  write_part_owned part within is =
      let long = length-take-le part.len (drop (part.addr - addr) bytes) (omega (arith, length-drop (part.addr - addr) bytes, within.to, within.from)) in
      subst (λ (n : ℕ). IsOwned shape g part.addr n) (sym long) (record { placed = within.whole.placed; logger = sym within.whole.logger ∙ is })

-- The parts of a range, one after another.
use Rattle.std.proofs.Common.{◌≡◌, ℕ, ◌+◌, ◌-◌, ◌<◌, ◌≤◌, cond, List, [], ◌∷◌, ◌++◌, length, map, sym, ◌∙◌, ap, subst, arith, append_assoc}
use Rattle.std.specs.Prelude.{All, filter, Bool}
use Rattle.std.proofs.lemmas.Bool.{eq-eqb}
use Rattle.std.proofs.lemmas.List.{append-nil, length-append, length-map}
use Rattle.std.proofs.lemmas.List.Elements.{All-nil, All-cons, All-head, All-tail}
use Rattle.array_shape.specs.declared.shape.Shape.{Shape}
use Rattle.array_shape.specs.declared.part.Part.{Part}
use Rattle.array_shape.specs.Places.{data_len}
use Rattle.array_shape.specs.Parts.{Tile, parts_of, is_part_on, part_of_write, parts_of_write}
use Rattle.array_shape.proofs.Cutting.{parts_tile, parts_placed, parts_of_write-parts}

-- a part of the range of `len` bytes at an address
pub record IsWithin (addr len : ℕ) (part : Part) : Type 0 where
  pub from : addr ≤ part.addr
  pub to : part.addr + part.len ≤ addr + len
  pub small : part.len ≤ 512

abbrev LiesIn : ℕ → ℕ → Part → Type 0
LiesIn from to part = (from ≤ part.addr) × (part.addr + part.len ≤ to)

tiles_lie : (from to addr len : ℕ) (ps : List Part) → from ≤ addr → addr + len ≤ to → Tile addr len ps → All (LiesIn from to) ps
tiles_lie from to addr len [] le fits tile = All-nil (LiesIn from to)
tiles_lie from to addr len (p ∷ ps) le fits tile =
    All-cons (LiesIn from to) p ps (omega (arith, tile.0, tile.1), omega (arith, tile.0, tile.1)) (tiles_lie from to (addr + p.len) (len - p.len) ps (omega arith) (omega (arith, tile.1)) tile.2)

all_within : (shape : Shape) (addr len : ℕ) → addr + len ≤ data_len shape → All (IsWithin addr len) (parts_of shape addr len)
all_within shape addr len fits =
    let lie = tiles_lie addr (addr + len) addr len (parts_of shape addr len) (omega arith) (omega arith) (parts_tile shape addr len) in
    λ k d lt. record { from = (lie k d lt).0; to = (lie k d lt).1; small = omega (arith, (parts_placed shape addr len fits k d lt).placed.page) }

-- Where a loop stands that appends the parts of a write to a list, which was another at first: these parts are left.
pub record StandsAt (addr : ℕ) (bytes : List ℕ) (first now : List (ℕ × List ℕ)) (left : List Part) : Type 0 where
  pub within : All (IsWithin addr (length bytes)) left
  pub items : now ++ map (part_of_write addr bytes) left ≡ first ++ parts_of_write addr bytes

module _ (addr : ℕ) (bytes : List ℕ) (first : List (ℕ × List ℕ)) where
  pub stands_first : (shape : Shape) → addr + length bytes ≤ data_len shape → StandsAt addr bytes first first (parts_of shape addr (length bytes))
  stands_first shape fits = record {
    within = all_within shape addr (length bytes) fits;
    items = ap (λ (ps : List (ℕ × List ℕ)). first ++ ps) (sym (parts_of_write-parts shape addr bytes));
  }

  module _ (now : List (ℕ × List ℕ)) (part : Part) (s rest : List Part) (next : s ≡ part ∷ rest) (stands : StandsAt addr bytes first now s) where
    pub within_here : IsWithin addr (length bytes) part
    within_here = All-head (IsWithin addr (length bytes)) part rest (subst (All (IsWithin addr (length bytes))) next stands.within)

    pub fewer : length now < length first + length (parts_of_write addr bytes)
    fewer = omega (arith, ap length stands.items, length-append now (map (part_of_write addr bytes) s), length-append first (parts_of_write addr bytes), length-map s (part_of_write addr bytes), ap length next)

    pub stands_next : (piece : ℕ × List ℕ) → piece ≡ part_of_write addr bytes part → StandsAt addr bytes first (now ++ piece ∷ []) rest
    stands_next piece is = record {
      within = All-tail (IsWithin addr (length bytes)) part rest (subst (All (IsWithin addr (length bytes))) next stands.within);
      items =
          append_assoc now (piece ∷ []) (map (part_of_write addr bytes) rest)
          ∙ ap (λ (p : ℕ × List ℕ). now ++ (p ∷ map (part_of_write addr bytes) rest)) is
          ∙ ap (λ (ps : List Part). now ++ map (part_of_write addr bytes) ps) (sym next)
          ∙ stands.items;
    }

  pub stands_last : (now : List (ℕ × List ℕ)) (s : List Part) → s ≡ [] → StandsAt addr bytes first now s → now ≡ first ++ parts_of_write addr bytes
  stands_last now s none stands = sym (append-nil now) ∙ ap (λ (ps : List Part). now ++ map (part_of_write addr bytes) ps) (sym none) ∙ stands.items

-- a part that the logger has
pub kept_here : (g : ℕ) (part : Part) (s rest : List Part) → s ≡ part ∷ rest → part.logger ≡ g → filter (is_part_on g) s ≡ part ∷ filter (is_part_on g) rest
kept_here g part s rest next is =
    ap (filter (is_part_on g)) next
    ∙ ap (λ (b : Bool). cond b (part ∷ filter (is_part_on g) rest) (filter (is_part_on g) rest)) (eq-eqb part.logger g is)

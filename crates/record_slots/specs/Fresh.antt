-- The pages of data without records.
use Rattle.std.specs.Prelude.{ℕ, zero, suc, List, ◌∷◌, replicate}
use Rattle.record_slots.specs.Super.{main_bytes}
use Rattle.record_slots.specs.declared.index_head.IndexHead.{IndexHead}

-- the head of the root, a leaf without pairs
abbrev pub fresh_root : IndexHead
fresh_root = record { kind = 1; level = 0; count = 0; link = 0 }

-- Page 0 is the super page of form 1, a tree, with no slot given out and 2 as the next page to give out. Page 1 is the root, a leaf
-- without pairs, and all others are zero.
abbrev pub fresh_page : ℕ → List ℕ
fresh_page zero = main_bytes 1 0 2
fresh_page (suc zero) = 1 ∷ replicate 511 0
fresh_page (suc (suc p)) = replicate 512 0

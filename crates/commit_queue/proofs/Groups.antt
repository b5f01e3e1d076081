-- A commit of a group: the lists of its numbers, one after another.
use Rattle.std.proofs.Common.{◌≡◌, ℕ, ◌<◌, ⊎_elim, cond, List, [], length, sym, ◌∙◌, ap, subst, arith}
use Rattle.std.proofs.lemmas.Bool.{cases_Bool}
use Rattle.array_shape.specs.declared.shape.Shape.{Shape}
use Rattle.array_shape.specs.Places.{media_len, data_len}
use Rattle.array_shape.specs.Logged.{Part, applied, AllOwned, AllPlaced, parts_at}
use Rattle.array_image.specs.Joined.{joined}
use Rattle.array_image.specs.Image.{parts_from}
use Rattle.array_image.proofs.Data.{joined_placed}
use Rattle.array_image.proofs.Joined.{joined_same}
use Rattle.array_image.proofs.Orders.{applied_any_order, parts_at-joined, parts_at_each}
use Rattle.array_image.proofs.Rows.{parts_owned}
use Rattle.row_bytes.specs.Ballots.{has_row}
use Rattle.commit_queue.specs.Queue.{Commit, named_at, IsWritten}
use Rattle.commit_queue.proofs.Moments.{written_placed}

-- if each number's list has at each logger just the parts that the commit names there, the lists by rising number give the same data
pub lists_in_turn : (shape : Shape) (image : List ℕ) (c : Commit) (lists : ℕ → List Part) (d : List ℕ) → length image ≡ media_len shape → IsWritten shape image c → length d ≡ data_len shape
    → ((t : ℕ) → t < shape.numbers → AllPlaced shape (lists t)) → ((g t : ℕ) → g < shape.loggers → t < shape.numbers → parts_at shape g (lists t) ≡ named_at shape image c t g)
    → applied c.parts d ≡ applied (joined lists 0 shape.numbers) d
lists_in_turn shape image c lists d long written d_long placed same =
    applied_any_order shape c.parts (joined lists 0 shape.numbers) d d_long (written_placed shape image c long written) (joined_placed shape lists 0 shape.numbers (λ t le lt. placed t (omega arith))) (λ g lt.
    ap (parts_at shape g) (sym written.parts_are)
    ∙ parts_at_each shape g (λ t. joined (named_at shape image c t) 0 shape.loggers) 0 shape.numbers
    ∙ joined_same (λ t. parts_at shape g (joined (named_at shape image c t) 0 shape.loggers)) (λ t. parts_at shape g (lists t)) 0 shape.numbers (λ t le lt'.
    parts_at-joined shape (named_at shape image c t) 0 shape.loggers (λ h le' below. own h t (omega arith) (omega arith)) g (omega arith) (omega arith) ∙ sym (same g t lt (omega arith)))
    ∙ sym (parts_at_each shape g lists 0 shape.numbers))
  where
    own : (h t : ℕ) → h < shape.loggers → t < shape.numbers → AllOwned shape h (named_at shape image c t h)
    own h t lt lt' = ⊎_elim
        (λ has.
        let named = written.rows h t lt lt' has in
        subst (λ b. AllOwned shape h (cond b (parts_from shape image h t (c.first h t) (c.count h t)) [])) (sym has) (parts_owned shape image h t (c.first h t) (c.count h t) long lt lt' named.fits named.cells))
        (λ lacks. subst (λ b. AllOwned shape h (cond b (parts_from shape image h t (c.first h t) (c.count h t)) [])) (sym lacks) tt)
        (cases_Bool (has_row c.ballot h t))

-- The parts that are laid over, and those of the queue of commits.
use Rattle.std.proofs.Common.{◌≡◌, ℕ, ◌<◌, inl, inr, ◌⊎◌, cond, true, false, List, [], ◌∷◌, length, map, refl, sym, ◌∙◌, ap, subst}
use Rattle.std.specs.Prelude.{All}
use Rattle.std.specs.List.{range_with_len}
use Rattle.std.proofs.lemmas.Bool.{cases_Bool, and_right}
use Rattle.array_shape.specs.declared.shape.Shape.{Shape}
use Rattle.array_shape.specs.Places.{data_len, media_len}
use Rattle.array_shape.specs.Logged.{AllFit, AllPlaced, applied, parts_at}
use Rattle.array_shape.specs.NumberSet.{has}
use Rattle.row_bytes.specs.Ballots.{has_row}
use Rattle.array_image.specs.Image.{parts_from}
use Rattle.array_image.proofs.Applied.{applied-append, length-applied}
use Rattle.array_image.proofs.Data.{all_fit}
use Rattle.commit_queue.specs.Queue.{Commit, Each, IsWritten, named_at, queue_parts}
use Rattle.commit_queue.proofs.Groups.{lists_in_turn}
use Rattle.commit_queue.proofs.Moments.{written_placed}
use Rattle.write_back.specs.declared.entry.Entry.{Entry}
use Rattle.write_back.specs.Entries.{AreHeld, IsEntry, parts_in}
use Rattle.write_back.specs.Turns.{HaveCells, group_parts, parts_in_turn}
use Rattle.write_back.proofs.EntryParts.{parts_named, parts_none, parts_placed}

module _ (shape : Shape) (image : List ℕ) (long : length image ≡ media_len shape) (entries : ℕ → List Entry) (held : AreHeld shape image entries) (all : (t : ℕ) → t < shape.numbers → All (IsEntry shape) (entries t)) where
  -- one commit
  one_commit : (c : Commit) (d : List ℕ) → IsWritten shape image c → HaveCells shape entries c → length d ≡ data_len shape → applied (group_parts shape image entries c.ballot.group) d ≡ applied c.parts d
  one_commit c d written cells d_long =
      sym (lists_in_turn shape image c (λ t. cond (has c.ballot.group t) (parts_in shape image t (entries t)) []) d long written d_long (λ t lt. placed t lt (cases_Bool (has c.ballot.group t))) (λ g t lt lt'. at_logger g t lt lt' (cases_Bool (has c.ballot.group t))))
    where
      placed : (t : ℕ) → t < shape.numbers → (has c.ballot.group t ≡ true) ⊎ (has c.ballot.group t ≡ false) → AllPlaced shape (cond (has c.ballot.group t) (parts_in shape image t (entries t)) [])
      placed t lt (inl is) = subst (λ b. AllPlaced shape (cond b (parts_in shape image t (entries t)) [])) (sym is) (parts_placed shape image t (entries t) (all t lt) (held t lt))
      placed t lt (inr is) = subst (λ b. AllPlaced shape (cond b (parts_in shape image t (entries t)) [])) (sym is) tt

      by_row : (g t : ℕ) → g < shape.loggers → t < shape.numbers → has c.ballot.group t ≡ true → (has_row c.ballot g t ≡ true) ⊎ (has_row c.ballot g t ≡ false) → parts_at shape g (parts_in shape image t (entries t)) ≡ named_at shape image c t g
      by_row g t lt lt' is (inl row) =
          parts_named shape image t g (c.first g t) (c.count g t) (entries t) (held t lt') (cells g t lt lt' is ∙ ap (λ b. cond b (range_with_len (c.first g t) (c.count g t)) []) row)
          ∙ sym (ap (λ b. cond b (parts_from shape image g t (c.first g t) (c.count g t)) []) row)
      by_row g t lt lt' is (inr row) =
          parts_none shape image t g (entries t) (held t lt') (cells g t lt lt' is ∙ ap (λ b. cond b (range_with_len (c.first g t) (c.count g t)) []) row)
          ∙ sym (ap (λ b. cond b (parts_from shape image g t (c.first g t) (c.count g t)) []) row)

      at_logger : (g t : ℕ) → g < shape.loggers → t < shape.numbers → (has c.ballot.group t ≡ true) ⊎ (has c.ballot.group t ≡ false)
          → parts_at shape g (cond (has c.ballot.group t) (parts_in shape image t (entries t)) []) ≡ named_at shape image c t g
      at_logger g t lt lt' (inl is) = ap (λ b. parts_at shape g (cond b (parts_in shape image t (entries t)) [])) is ∙ by_row g t lt lt' is (cases_Bool (has_row c.ballot g t))
      at_logger g t lt lt' (inr is) =
          ap (λ b. parts_at shape g (cond b (parts_in shape image t (entries t)) [])) is
          ∙ sym (ap (λ b. cond b (parts_from shape image g t (c.first g t) (c.count g t)) []) (and_right (has c.ballot.mask g) (has c.ballot.group t) is))

  -- a queue of them
  pub queue_laid : (queue : List Commit) (d : List ℕ) → Each (IsWritten shape image) queue → Each (HaveCells shape entries) queue → length d ≡ data_len shape
      → applied (parts_in_turn shape image entries (map (λ c. c.ballot) queue)) d ≡ applied (queue_parts queue) d
  queue_laid [] d written cells d_long = refl
  queue_laid (c ∷ cs) d written cells d_long =
      let group = group_parts shape image entries c.ballot.group in
      let rest = parts_in_turn shape image entries (map (λ c. c.ballot) cs) in
      let fit : AllFit (length d) c.parts = subst (λ n. AllFit n c.parts) (sym d_long) (all_fit shape c.parts (written_placed shape image c long written.0)) in
      applied-append group rest d
      ∙ ap (applied rest) (one_commit c d written.0 cells.0 d_long)
      ∙ queue_laid cs (applied c.parts d) written.1 cells.1 (length-applied c.parts d fit ∙ d_long)
      ∙ sym (applied-append c.parts (queue_parts cs) d)

use Rattle.std.proofs.Common.{◌≡◌, ℕ, ◌+◌, ◌*◌, ◌<◌, List, refl, sym, ◌∙◌, ap, arith}
use Rattle.std.specs.Prelude.{slice_set}
use Rattle.std.proofs.lemmas.Bool.{false≢true}
use Rattle.std.proofs.lemmas.List.{get_or-set_other}
use Rattle.array_shape.specs.declared.shape.Shape.{Shape}
use Rattle.coordinator.specs.declared.cells.Cells.{Cells}
use Rattle.coordinator.specs.Commits.{cells_in, no_cells}
use Rattle.write_back.specs.Shown.{entries_of}
use Rattle.write_back.specs.Turns.{has_some}
use Rattle.write_back.proofs.Renaming.{renamed_data, renamed_rests}
use Rattle.write_back.proofs.Tying.{all_named_same, free_lacks}
use Rattle.write_back.proofs.commits.LateData.name.Goals as goal

-- what other numbers have stays
others_stay : (shape : Shape) (cells : List Cells) (x : Cells) (tid logger at : ℕ) → at ≡ 8 * tid + logger → logger < 8 → (g t : ℕ) → g < shape.loggers → t < shape.numbers → (t ≡ tid → ⊥) → cells_in (slice_set cells at x) g t ≡ cells_in cells g t
others_stay shape cells x tid logger at is lt g t lt' lt'' ne = let few : g < 8 = omega (arith, shape.in_range.most_loggers, lt') in get_or-set_other cells at (8 * t + g) x no_cells (λ same. ne (omega arith))

module _ (c : goal.After-way_told-1) where
  others : (g t : ℕ) → g < c.args.shape.now.loggers → t < c.args.shape.now.numbers → (t ≡ c.args.tid → ⊥) → cells_in (slice_set c.args.self.now.queue.cells (8 * c.from.result + c.from-2.result) c.args.cells) g t ≡ cells_in c.args.self.now.queue.cells g t
  others = others_stay c.args.shape.now c.args.self.now.queue.cells c.args.cells c.args.tid c.args.logger (8 * c.from.result + c.from-2.result) (omega (arith, c.from.ensures, c.from-2.ensures)) c.requires.logger

pub returns-clause-waiting : goal.returns-clause-waiting
returns-clause-waiting c now waiting =
    let queue = c.args.self.now.queue in
    renamed_rests c.args.shape.now queue.cells (slice_set queue.cells (8 * c.from.result + c.from-2.result) c.args.cells) c.args.tid (others c) queue.ballots.items c.requires.apart now waiting

pub returns-clause-same : goal.returns-clause-same
returns-clause-same c image =
    let queue = c.args.self.now.queue in
    renamed_data c.args.shape.now queue.cells (slice_set queue.cells (8 * c.from.result + c.from-2.result) c.args.cells) c.args.tid (others c) queue.ballots.items c.requires.apart image

pub returns-clause-tied : goal.returns-clause-tied
returns-clause-tied c aside tied =
    let shape = c.args.shape.now in
    let kept = c.args.self.now in
    let bs = kept.queue.ballots.items in
    let free = free_lacks bs c.args.tid c.requires.apart in
    record {
      named = all_named_same shape kept.queue.cells (slice_set kept.queue.cells (8 * c.from.result + c.from-2.result) c.args.cells) (entries_of kept.parts) (entries_of kept.parts) bs (λ t lt so. refl)
          (λ g t lt lt' so. others c g t lt lt' (λ is. false≢true (sym free ∙ ap (has_some bs) (sym is) ∙ so))) tied.named;
      apart = tied.apart;
      none = tied.none;
    }

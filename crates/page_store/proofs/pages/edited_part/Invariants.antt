use Rattle.std.proofs.Common.{◌≡◌, ℕ, ◌<◌, ◌≤◌, false, length}
use Rattle.eaw_face.specs.State.{listed, range_at}
use Rattle.page_store.specs.Edit.{meet}
use Rattle.page_store.proofs.pages.edited_part.Given as goal

abbrev pub invariant-loop-pos : goal.invariant-loop-pos
invariant-loop-pos g l =
    let ranges = listed ((g.S.EawStore.view l.store).ranges l.tid) in
    record {
      within : l.pos ≤ length ranges;
      none_met : (k : ℕ) → l.pos ≤ k → k < length ranges → meet (l.addr, l.len) (range_at ranges k) ≡ false;
    }

use Rattle.std.proofs.Common.{ℕ, ◌+◌, ◌<◌, ◌≤◌}
use Rattle.page_store.specs.Fits.{held_on, needed_on}
use Rattle.page_store.proofs.pages.Pages.fits.Given as goal

-- each logger before this one has room
abbrev pub invariant-loop-logger : goal.invariant-loop-logger
invariant-loop-logger g l =
    let store = g.S.EawStore.view l.self-inside.store in
    (k : ℕ) → k < l.logger → held_on store l.tid k + needed_on store l.pages k ≤ store.shape.entries

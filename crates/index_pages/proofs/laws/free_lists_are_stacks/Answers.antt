use Rattle.std.proofs.Common.{◌-◌, ℕ, suc, ap}
use Rattle.record_slots.specs.Free.{next_of}
use Rattle.index_pages.proofs.Released.{free_kind}
use Rattle.index_pages.proofs.Stacks.{list_seen, list_passes, list_pushed, list_popped, list_room, members_differ}
use Rattle.index_pages.proofs.laws.free_lists_are_stacks.Goals as goal

pub returns-clause-pushes : goal.returns-clause-pushes
returns-clause-pushes c = λ old new page_of low end n first m page check from to is same.
    list_passes new page_of low end (suc n) (suc m) page (list_pushed old new low end n first m (list_seen old page_of low end n first page check) from to is same)

pub returns-clause-pops : goal.returns-clause-pops
returns-clause-pops c = λ old new page_of low end n first page check same.
    list_passes new page_of low end n (next_of (old (first - 1))) page (list_popped old new low end n first (list_seen old page_of low end (suc n) first page check) same)

pub returns-clause-once : goal.returns-clause-once
returns-clause-once c = λ said page_of low end n first page i j check lt lt' other same.
    members_differ said low end n i j first (list_seen said page_of low end n first page check) lt lt' other (ap (λ (m : ℕ). m - 1) same)

pub returns-clause-room : goal.returns-clause-room
returns-clause-room c = λ said page_of low end n first page m check from to none. list_room said low end n first m (list_seen said page_of low end n first page check) from to none

pub returns-clause-apart : goal.returns-clause-apart
returns-clause-apart c = free_kind

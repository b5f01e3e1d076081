-- What a put or a removal leaves, from a save on.
use Rattle.std.proofs.Common.{◌≡◌, ℕ, ◌+◌, ◌*◌, List, Option, sym, ap, subst}
use Rattle.std.specs.FinMap.{get}
use Rattle.history.specs.Table.{Work}
use Rattle.history.specs.Writes.{Table}
use Rattle.caller_steps.specs.Core.{CoreView}
use Rattle.transactions.specs.Adds.{Stays, Keeps}
use Rattle.long_values.specs.Values.{IsKeptFrom, IsKept}
use Rattle.long_values.specs.Changing.{seen_by, SameOutside, SameButAt}
use Rattle.long_values.proofs.Seeing.{kept}

-- a refused save leaves what is seen,
pub same_seen : (caller : ℕ) (old new : CoreView) → Stays caller old new → Keeps caller old new → seen_by caller new ≡ seen_by caller old
same_seen caller old new stays keeps = ap (λ (w : Work). w.table) (kept caller old new stays keeps)

-- and so all of it
pub all_same : (name : List ℕ) (key : ℕ) (old new : Table) → new ≡ old → SameButAt name key old new
all_same name key old new is k out = ap (λ (t : Table). get t k) is

-- changes from a save on are changes from before it,
pub from_before : (name : List ℕ) (key first : ℕ) (old mid new : Table) → mid ≡ old → first ≡ key * 512 → SameOutside name first (first + 512) mid new → SameButAt name key old new
from_before name key first old mid new is at same = subst (λ (p : Table × ℕ). SameOutside name p.1 (p.1 + 512) p.0 new) (λ i. (is i, at i)) same

-- and so it is with a value that was there, and one that is
pub kept_before : (name : List ℕ) (key first : ℕ) (was : Option (List ℕ)) (old mid : Table) → mid ≡ old → first ≡ key * 512 → IsKept name key was old → IsKeptFrom name first was mid
kept_before name key first was old mid is at kept = subst (λ (p : Table × ℕ). IsKeptFrom name p.1 was p.0) (λ i. (sym is i, sym at i)) kept

pub kept_after : (name : List ℕ) (key first : ℕ) (value : Option (List ℕ)) (new : Table) → first ≡ key * 512 → IsKeptFrom name first value new → IsKept name key value new
kept_after name key first value new at kept = subst (λ (f : ℕ). IsKeptFrom name f value new) at kept

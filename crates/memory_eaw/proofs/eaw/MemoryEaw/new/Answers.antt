use Rattle.std.proofs.Common.{◌≡◌, ℕ, [], List, ⊎_elim, refl, ◌∙◌, ap}
use Rattle.std.specs.Option.{option_map}
use Rattle.array_shape.specs.Logged.{ranges_of}
use Rattle.memory_eaw.specs.Kept.{Kept}
use Rattle.mirror.specs.Log.{Log}
use Rattle.memory_eaw.specs.Log.{logged, outline}
use Rattle.memory_eaw.specs.Plain.{LeftSince}
use Rattle.memory_eaw.proofs.Views.{logged-replicate}
use Rattle.memory_eaw.proofs.eaw.MemoryEaw.new.Goals as goal

-- what was left of a store that has kept nothing
left_first : (bytes start : List ℕ) (kept : Kept) (t : ℕ) (image : List ℕ) → bytes ≡ start → kept.past ≡ [] → LeftSince bytes kept.past t image → image ≡ start
left_first bytes start kept t image is none left = ⊎_elim (λ now. now ∙ is) (λ before. absurd (rw none at before)) left

pub returns-clause-store : goal.returns-clause-store
returns-clause-store c = record {
  shape_is = refl;
  depth = refl;
  bytes_are = c.in_ok-from_slice.ensures.items;
  free = λ t. ap (λ (logs : List Log). outline (logged logs) t) c.in_ok-free_logs.ensures.logs ∙ ap (option_map ranges_of) (logged-replicate c.args.shape.numbers t _);
  alive = refl;
  no_fault = ap (λ (k : Kept). k.faults) c.in_ok-new.ensures;
  first = ap (λ (k : Kept). k.moment) c.in_ok-new.ensures;
  left = λ t image left. left_first c.in_ok-from_slice.field-0.items c.args.bytes.now c.in_ok-new.field-0 t image c.in_ok-from_slice.ensures.items (ap (λ (k : Kept). k.past) c.in_ok-new.ensures) left;
}

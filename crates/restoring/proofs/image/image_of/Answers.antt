use Rattle.std.proofs.Common.{◌≡◌, ℕ, List, ◌∙◌, ap, subst}
use Rattle.array_shape.specs.Places.{page_count}
use Rattle.eaw_device.specs.Made.{IsNew}
use Rattle.table_builder.specs.Causes.{BuildCause}
use Rattle.table_builder.specs.Plan.{Plan, CanMake, planned_page}
use Rattle.restoring.specs.Restored.{plan_for}
use Rattle.restoring.proofs.Restoring.{restored_new}
use Rattle.restoring.proofs.image.image_of.Goals as goal

pub returns-clause-restored : goal.returns-clause-restored
returns-clause-restored c =
    let shape = c.args.shape.now in
    let same : c.in_ok-data.data ≡ plan_for shape c.args.fill c.args.tables =
    c.in_ok-data.ensures.image ∙ ap (λ (n : ℕ). let plan : Plan = record { fill = c.args.fill; half = n; tables = c.args.tables } in plan) c.index_pages.ensures.half in
    restored_new shape c.args.fill c.args.tables (subst CanMake same c.in_ok-data.ensures.can) c.new.result.left
    (subst (λ (plan : Plan). IsNew shape (planned_page plan) c.new.result.left) same c.new.ensures.new)

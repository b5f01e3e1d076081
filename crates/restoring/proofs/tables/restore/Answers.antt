use Rattle.std.proofs.Common.{◌≡◌, ℕ, ◌∙◌, ap, subst}
use Rattle.array_shape.specs.Places.{page_count}
use Rattle.mars_base.proofs.Going.{weaker}
use Rattle.eaw_device.specs.Made.{HasPages, IsOldOrNew}
use Rattle.table_builder.specs.Plan.{Plan, CanMake, planned_page}
use Rattle.restoring.specs.Restored.{plan_for}
use Rattle.restoring.proofs.Restoring.{old_or_restored, restored}
use Rattle.restoring.proofs.tables.restore.Goals as goal

pub returns-in-Ok-make-clause-just : goal.returns-in-Ok-make-clause-just
returns-in-Ok-make-clause-just g c = λ told.
    let shape = c.args.shape.now in
    let bytes = (g.M.Media.view c.make.new.media).content.bytes in
    let same : c.in-Ok.image ≡ plan_for shape c.args.fill c.args.tables =
    c.in-Ok.ensures.image ∙ ap (λ (n : ℕ). let plan : Plan = record { fill = c.args.fill; half = n; tables = c.args.tables } in plan) c.index_pages.ensures.half in
    restored shape c.args.fill c.args.tables (subst CanMake same c.in-Ok.ensures.can) bytes
    (subst (λ (plan : Plan). HasPages shape (planned_page plan) (page_count shape) bytes) same (c.in-Ok-make.ensures.made told).parts.pages)

pub returns-in-Ok-make-clause-any_moment : goal.returns-in-Ok-make-clause-any_moment
returns-in-Ok-make-clause-any_moment g c = λ told.
    let shape = c.args.shape.now in
    let same : c.in-Ok.image ≡ plan_for shape c.args.fill c.args.tables =
    c.in-Ok.ensures.image ∙ ap (λ (n : ℕ). let plan : Plan = record { fill = c.args.fill; half = n; tables = c.args.tables } in plan) c.index_pages.ensures.half in
    let content = (g.M.Media.view c.args.media.now).content in
    weaker (λ image left. old_or_restored shape c.args.fill c.args.tables (subst CanMake same c.in-Ok.ensures.can) content image
    (subst (λ (plan : Plan). IsOldOrNew shape (planned_page plan) content image) same left)) (c.make.ensures.any_moment told)

pub returns-clause-any_moment : goal.returns-clause-any_moment
returns-clause-any_moment g c = λ told.
    let shape = c.args.shape.now in
    let same : c.in-Ok.image ≡ plan_for shape c.args.fill c.args.tables =
    c.in-Ok.ensures.image ∙ ap (λ (n : ℕ). let plan : Plan = record { fill = c.args.fill; half = n; tables = c.args.tables } in plan) c.index_pages.ensures.half in
    let content = (g.M.Media.view c.args.media.now).content in
    weaker (λ image left. old_or_restored shape c.args.fill c.args.tables (subst CanMake same c.in-Ok.ensures.can) content image
    (subst (λ (plan : Plan). IsOldOrNew shape (planned_page plan) content image) same left)) (c.make.ensures.any_moment told)

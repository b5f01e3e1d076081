use Rattle.std.proofs.Common.{ℕ, true, rules, ◌∙◌, Result, Ok, Err}
use Rattle.tape_media.specs.Tape.{view_of, counts_now}
use Rattle.btree_pages.specs.Index.{tree}
use Rattle.eaw_device.specs.Opens.{Opens}
use Rattle.eaw_device.specs.Sound as device
use Rattle.mars_core.specs.Making.{MakesTable}
use Rattle.record_table.specs.declared.making.MakeFault.{MakeFault}
use Rattle.record_table.specs.declared.making.MakeFault.TheVariants.{PagesFull}
use Rattle.taped_records.proofs.Remaking.{by_chance, made_of, has_table, has_no_page}
use Rattle.taped_records.proofs.making.remade.Goals as goal

pub returns-in_ok-array-in-Ok-Ok-default-clause-made : goal.returns-in_ok-array-in-Ok-Ok-default-clause-made
returns-in_ok-array-in-Ok-Ok-default-clause-made c =
    let s = c.in-Ok.store in
    let t = c.make_table.result.1 in
    let tape = c.into_media.result in
    let new = c.in_ok-array-in-Ok-Ok-default in
    let found = device.view_of (view_of s.media) s.shape s.logs.items s.late s.is_dead in
    let after = device.view_of (view_of t.media) t.shape t.logs.items t.late t.is_dead in
    let makes = made_of (λ (m : Result ℕ MakeFault). MakesTable true (Opens found.shape) tree c.args.name.now found after m) c.make_table.result.0 (Ok c.in-Ok-Ok-default.number) c.make_table.ensures.makes (search rules) in
    has_table c.in-Some.depth c.args.array (view_of c.in-Some.media) c.in-Some.ensures.down found c.in-Ok.ensures.found c.in-Ok.ensures.keeps (c.in-Ok.ensures.opens.device ∙ c.in-Some.ensures.device) c.args.name.now after _ (view_of tape) c.into_media.ensures.behind
    (λ image left. counts_now tape tape.moment image left) new.array.value new.ensures.begins new.ensures.keeps new.ensures.callers new.ensures.rows new.ensures.device c.requires c.in-Ok-Ok-default.number makes

pub returns-in_ok-array-in-Ok-Err-PagesFull-default-clause-left : goal.returns-in_ok-array-in-Ok-Err-PagesFull-default-clause-left
returns-in_ok-array-in-Ok-Err-PagesFull-default-clause-left c =
    let s = c.in-Ok.store in
    let t = c.make_table.result.1 in
    let tape = c.into_media-in-Ok-Err-PagesFull-default.result in
    let new = c.in_ok-array-in-Ok-Err-PagesFull-default in
    let found = device.view_of (view_of s.media) s.shape s.logs.items s.late s.is_dead in
    let after = device.view_of (view_of t.media) t.shape t.logs.items t.late t.is_dead in
    let makes = made_of (λ (m : Result ℕ MakeFault). MakesTable true (Opens found.shape) tree c.args.name.now found after m) c.make_table.result.0 (Err (PagesFull c.in-Ok-Err-PagesFull-default.pages)) c.make_table.ensures.makes (search rules) in
    has_no_page c.in-Some.depth c.args.array (view_of c.in-Some.media) c.in-Some.ensures.down found c.in-Ok.ensures.found c.in-Ok.ensures.keeps (c.in-Ok.ensures.opens.device ∙ c.in-Some.ensures.device) c.args.name.now after _ (view_of tape) c.into_media-in-Ok-Err-PagesFull-default.ensures.behind
    (λ image left. counts_now tape tape.moment image left) new.array.value new.ensures.begins new.ensures.keeps new.ensures.callers new.ensures.rows new.ensures.device c.requires c.in-Ok-Err-PagesFull-default.pages makes

pub returns-in-Err-default-clause-closed : goal.returns-in-Err-default-clause-closed
returns-in-Err-default-clause-closed c = by_chance c.args.name.now c.args.array c.unopened-in-Err-default.result c.requires c.unopened-in-Err-default.ensures

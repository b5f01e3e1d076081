use Rattle.std.proofs.Common.{◌≡◌, ◌+◌, ◌-◌, ◌<◌, ◌++◌, List, Bool, true, cond, length, ◌∙◌, ap, arith}
use Rattle.std.specs.Prelude.{is_ok}
use Rattle.std.specs.Vec.{vec_capacity}
use Rattle.memory_eaw.specs.Kept.{Kept, Version}
use Rattle.memory_eaw.proofs.Versions.{fits_more, holds_more, versions_more}
use Rattle.memory_eaw.proofs.journal.Journal.keep.Goals as goal

module _ (c : goal.After-is_ok) where
  size : length c.args.bytes.now ≡ c.self.inside.size
  size = rw (← c.self.view_is) at c.requires.size

  room : 0 < c.self.inside.room
  room = rw (← c.self.view_is) at c.requires.room

  done : is_ok c.extend_from_slice.result ≡ true
  done = c.extend_from_slice.ensures.succeeds (omega (arith, c.self.inside.past.ok.0, fits_more c.self.inside.size c.self.inside.room (c.self.inside.moment + 1) (vec_capacity c.self.inside.untils) (vec_capacity c.self.inside.past) c.self.inside.untils.items c.self.inside.past.items c.args.bytes.now c.self.invariant room size))

  past : c.extend_from_slice.new.self.items ≡ c.self.inside.past.items ++ c.args.bytes.now
  past = c.extend_from_slice.ensures.items ∙ ap (λ (b : Bool). cond b (c.self.inside.past.items ++ c.args.bytes.now) c.self.inside.past.items) done

pub invariant_of-self : goal.invariant_of-self
invariant_of-self c =
    holds_more c.self.inside.size c.self.inside.room (c.self.inside.moment + 1) (vec_capacity c.self.inside.untils) (vec_capacity c.self.inside.past) c.self.inside.untils.items c.self.inside.past.items c.args.bytes.now c.self.invariant (room c) (size c)
    _ _ _ _ c.push_reserved.ensures.items (past c) c.push_reserved.ensures.capacity c.extend_from_slice.ensures.capacity

pub returns-clause-kept : goal.returns-clause-kept
returns-clause-kept c =
    let with : List Version → Kept = λ vs. record { listed = c.self.inside.listed.items; moment = c.self.inside.moment + 1; faults = c.self.inside.faults; past = vs; room = c.self.inside.room - 1; size = c.self.inside.size } in
    rw (← c.self.view_is) (ap with (versions_more c.self.inside.size c.self.inside.room (c.self.inside.moment + 1) (vec_capacity c.self.inside.untils) (vec_capacity c.self.inside.past) c.self.inside.untils.items c.self.inside.past.items c.args.bytes.now c.self.invariant (room c) (size c)
    c.push_reserved.new.self.items c.extend_from_slice.new.self.items c.push_reserved.ensures.items (past c)))

use Rattle.std.proofs.Common.{◌≤◌, ◌*◌, ℕ, List, sym, subst, arith}
use Rattle.page_store.specs.Index.{slots_of}
use Rattle.page_store.specs.Pairs.{Pair, AreInside, AreNext}
use Rattle.record_slots.specs.Places.{next_slot}
use Rattle.index_pages.specs.Keys.{key_end}
use Rattle.index_pages.specs.Page.{pairs_said}
use Rattle.index_pages.proofs.Sizes.{slots_are}
use Rattle.index_pages.proofs.Turns.{rest_inside}
use Rattle.key_list.specs.Chain.{pairs_of_chain}
use Rattle.key_list.proofs.Walking.{reached_next}
use Rattle.std.proofs.Common.{◌≡◌, ◌∙◌, Some, ap}
use Rattle.page_store.specs.Index.{index_pages_of}
use Rattle.index_pages.specs.Keys.{from_on}
use Rattle.index_pages.proofs.Courses.{walks_ok, walks_bad, walks_err}
use Rattle.key_list.specs.Along.{along, answered, Arrives}
use Rattle.key_list.proofs.Ends.{answer_is, none_from}
use Rattle.key_list.proofs.chain.KeyListKeyIndex.next_pairs.Goals as goal

pub returns-in-Ok-None-clause-next : goal.returns-in-Ok-None-clause-next
returns-in-Ok-None-clause-next g c = λ told.
    subst (λ (l : List Pair). AreNext (pairs_of_chain (g.S.EawStore.view c.args.pages.now.store).state.bytes c.args.root) c.args.from l) (sym c.new.ensures) (rw c.in-Ok-None.field-0-is at (c.in-Ok-None.ensures.end told))

pub returns-in-Ok-None-clause-inside : goal.returns-in-Ok-None-clause-inside
returns-in-Ok-None-clause-inside g c = subst (λ (l : List Pair). AreInside c.args.from (slots_of (g.S.EawStore.view c.args.pages.now.store).shape) l) (sym c.new.ensures) tt

pub returns-in_default-clause-cause : goal.returns-in_default-clause-cause
returns-in_default-clause-cause g c =
    let view = g.S.EawStore.view c.args.pages.now.store in (
      c.in-Ok-Some.ensures.cause,
      λ told.
          let at = rw c.in-Ok-Some.field-0-is at (c.in-Ok-Some.ensures.reaches told) in
          let few : next_slot view.state.bytes ≤ 8 * c.index_page_count-slots.result = omega (arith, (c.requires.sound told c.in-Ok-Some.ensures.cause).0.slots, slots_are view.shape view.state.bytes (g.met.S.EawStore.long c.args.pages.now.store told), c.index_page_count-slots.ensures.all) in
          (rw c.in_default.is at c.rest_of.ensures.none) (rest_inside view.state.bytes c.args.table (8 * c.index_page_count-slots.result) at.rises.0 key_end c.args.from (pairs_said c.reach.new.bytes) at.rises.1 at.given few),
    )

pub returns-clause-next : goal.returns-clause-next
returns-clause-next g c = λ told.
    reached_next (g.S.EawStore.view c.args.pages.now.store).state.bytes c.args.root c.args.table c.args.from _ c.reach.new.bytes (rw c.in-Ok-Some.field-0-is at (c.in-Ok-Some.ensures.reaches told)) (rw c.in-Ok-Some.field-0-is at c.in-Ok-Some.ensures.some).2
    c.in-Some.some.items (rw c.in-Some.is at c.rest_of.ensures.rest) (rw c.in-Some.is at c.rest_of.ensures.inside)

pub returns-clause-inside : goal.returns-clause-inside
returns-clause-inside g c = subst (λ (n : ℕ). AreInside c.args.from n c.in-Some.some.items) (omega (arith, c.index_page_count-slots.ensures.all)) (rw c.in-Some.is at c.rest_of.ensures.inside)

pub returns-in-Err-clause-follows : goal.returns-in-Err-clause-follows
returns-in-Err-clause-follows g c =
    let view = g.S.EawStore.view c.args.pages.now.store in
    walks_err g.S.EawStore.tells (g.S.EawStore.calls c.args.pages.now.store) (g.S.EawStore.calls c.reach.new.pages.store) (along c.args.root c.args.from) (along c.args.root c.args.from)
    (index_pages_of view.shape) (index_pages_of view.shape) (Arrives c.args.from c.reach.new.bytes) (λ some read. answered (λ pairs. from_on pairs c.args.from) c.args.from read ≡ Some some.items) view (g.S.EawStore.view c.reach.new.pages.store) (λ read way. way) (omega arith) c.in-Err.fault c.in-Err.ensures.walks

pub returns-in-Ok-None-clause-follows : goal.returns-in-Ok-None-clause-follows
returns-in-Ok-None-clause-follows g c =
    let view = g.S.EawStore.view c.args.pages.now.store in
    let none = none_from (pairs_said c.reach.new.bytes) c.args.from (rw c.in-Ok-None.field-0-is at c.in-Ok-None.ensures.none) in
    walks_ok g.S.EawStore.tells (g.S.EawStore.calls c.args.pages.now.store) (g.S.EawStore.calls c.reach.new.pages.store) (along c.args.root c.args.from) (along c.args.root c.args.from)
    (index_pages_of view.shape) (index_pages_of view.shape) (Arrives c.args.from c.reach.new.bytes) (λ some read. answered (λ pairs. from_on pairs c.args.from) c.args.from read ≡ Some some.items) view (g.S.EawStore.view c.reach.new.pages.store) (λ read way. way) (omega arith) _ _ c.in-Ok-None.ensures.walks
    (λ read way ends. answer_is (λ pairs. from_on pairs c.args.from) c.args.from c.reach.new.bytes read ends.0 ∙ ap Some (none ∙ sym c.new.ensures))

pub returns-in_default-clause-follows : goal.returns-in_default-clause-follows
returns-in_default-clause-follows g c =
    let view = g.S.EawStore.view c.args.pages.now.store in
    walks_bad g.S.EawStore.tells (g.S.EawStore.calls c.args.pages.now.store) (g.S.EawStore.calls c.reach.new.pages.store) (along c.args.root c.args.from) (along c.args.root c.args.from)
    (index_pages_of view.shape) (index_pages_of view.shape) (Arrives c.args.from c.reach.new.bytes) (λ some read. answered (λ pairs. from_on pairs c.args.from) c.args.from read ≡ Some some.items) view (g.S.EawStore.view c.reach.new.pages.store) (λ read way. way) (omega arith) _ c.in-Ok-Some.at.page c.in-Ok-Some.ensures.walks
    (λ read ends. rw c.in-Ok-Some.field-0-is at ends.1)

pub returns-clause-follows : goal.returns-clause-follows
returns-clause-follows g c =
    let view = g.S.EawStore.view c.args.pages.now.store in
    walks_ok g.S.EawStore.tells (g.S.EawStore.calls c.args.pages.now.store) (g.S.EawStore.calls c.reach.new.pages.store) (along c.args.root c.args.from) (along c.args.root c.args.from)
    (index_pages_of view.shape) (index_pages_of view.shape) (Arrives c.args.from c.reach.new.bytes) (λ some read. answered (λ pairs. from_on pairs c.args.from) c.args.from read ≡ Some some.items) view (g.S.EawStore.view c.reach.new.pages.store) (λ read way. way) (omega arith) _ _ c.in-Ok-Some.ensures.walks
    (λ read way ends. answer_is (λ pairs. from_on pairs c.args.from) c.args.from c.reach.new.bytes read ends.0 ∙ ap Some (sym (rw c.in-Some.is at c.rest_of.ensures.rest)))

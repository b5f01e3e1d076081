use Rattle.std.proofs.Common.{◌^◌, ◌≡◌, Some, sym, ◌∙◌, arith}
use Rattle.page_store.specs.Pairs.{Pair, next}
use Rattle.index_pages.specs.Page.{pairs_said}
use Rattle.index_pages.proofs.Sizes.{slots_are}
use Rattle.key_list.specs.Chain.{pairs_of_chain}
use Rattle.key_list.specs.ChainFacts.{sound_chain_rises}
use Rattle.key_list.specs.Resting.{sound_table}
use Rattle.key_list.proofs.Walking.{found_next, found_other, found_none, given_next}
use Rattle.std.proofs.Common.{ap, Option, None}
use Rattle.page_store.specs.Index.{index_pages_of}
use Rattle.index_pages.proofs.Courses.{walks_ok, walks_bad, walks_err}
use Rattle.key_list.specs.Along.{along, answered, led_to, Arrives}
use Rattle.key_list.proofs.Ends.{answer_is, led_here, led_past}
use Rattle.key_list.proofs.chain.KeyListKeyIndex.find.Goals as goal

pub returns-in-Ok-None-clause-found : goal.returns-in-Ok-None-clause-found
returns-in-Ok-None-clause-found g c = λ told.
    sym (found_none (pairs_of_chain (g.S.EawStore.view c.args.pages.now.store).state.bytes c.args.root) c.args.key (rw c.in-Ok-None.field-0-is at (c.in-Ok-None.ensures.end told)))

pub returns-in_default-clause-found : goal.returns-in_default-clause-found
returns-in_default-clause-found g c = λ told. absurd ((rw c.in-Ok-Some.field-0-is at c.in-Ok-Some.ensures.some).2 (sym c.next_pair.ensures ∙ c.in_default.is))

pub returns-then-slot-from-clause-cause : goal.returns-then-slot-from-clause-cause
returns-then-slot-from-clause-cause g c =
    let view = g.S.EawStore.view c.args.pages.now.store in (
      c.in-Ok-Some.ensures.cause,
      λ told.
          let at = rw c.in-Ok-Some.field-0-is at (c.in-Ok-Some.ensures.reaches told) in
          let some : next (pairs_said c.reach.new.bytes) c.args.key ≡ Some (c.in-Some.least, c.in-Some.slot) = sym c.next_pair.ensures ∙ c.in-Some.is in
          let given = given_next view.state.bytes c.args.table c.args.key (c.in-Some.least, c.in-Some.slot) (pairs_said c.reach.new.bytes) at.given some in
          omega (arith, given, (c.requires.sound told c.in-Ok-Some.ensures.cause).0.slots, slots_are view.shape view.state.bytes (g.met.S.EawStore.long c.args.pages.now.store told), c.index_page_count-slots.ensures.all, c.if-slot-from.true, c.from.ensures),
    )

pub returns-then-least-key-clause-found : goal.returns-then-least-key-clause-found
returns-then-least-key-clause-found g c = λ told.
    let at = rw c.in-Ok-Some.field-0-is at (c.in-Ok-Some.ensures.reaches told) in
    let some : next (pairs_said c.reach.new.bytes) c.args.key ≡ Some (c.in-Some.least, c.in-Some.slot) = sym c.next_pair.ensures ∙ c.in-Some.is in
    sym (found_next (pairs_of_chain (g.S.EawStore.view c.args.pages.now.store).state.bytes c.args.root) c.args.key (c.in-Some.least, c.in-Some.slot) (at.later c.args.key (c.in-Some.least, c.in-Some.slot) (omega arith) some) c.if-least-key.true)

pub returns-else-least-key-clause-found : goal.returns-else-least-key-clause-found
returns-else-least-key-clause-found g c = λ told.
    let view = g.S.EawStore.view c.args.pages.now.store in
    let at = rw c.in-Ok-Some.field-0-is at (c.in-Ok-Some.ensures.reaches told) in
    let some : next (pairs_said c.reach.new.bytes) c.args.key ≡ Some (c.in-Some.least, c.in-Some.slot) = sym c.next_pair.ensures ∙ c.in-Some.is in
    sym (found_other 0 (2 ^ 64) (pairs_of_chain view.state.bytes c.args.root) c.args.key (c.in-Some.least, c.in-Some.slot)
    (sound_chain_rises view.state.bytes c.args.root c.args.table (sound_table view.state.bytes c.args.table c.args.root (c.requires.sound told c.in-Ok-Some.ensures.cause) (c.requires.named told c.in-Ok-Some.ensures.cause)))
    (at.later c.args.key (c.in-Some.least, c.in-Some.slot) (omega arith) some) c.if-least-key.false)

pub returns-in-Err-clause-follows : goal.returns-in-Err-clause-follows
returns-in-Err-clause-follows g c =
    let view = g.S.EawStore.view c.args.pages.now.store in
    walks_err g.S.EawStore.tells (g.S.EawStore.calls c.args.pages.now.store) (g.S.EawStore.calls c.reach.new.pages.store) (along c.args.root c.args.key) (along c.args.root c.args.key)
    (index_pages_of view.shape) (index_pages_of view.shape) (Arrives c.args.key c.reach.new.bytes) (λ slot read. answered (λ pairs. led_to c.args.key (next pairs c.args.key)) c.args.key read ≡ Some slot) view (g.S.EawStore.view c.reach.new.pages.store) (λ read way. way) (omega arith) c.in-Err.fault c.in-Err.ensures.walks

pub returns-in-Ok-None-clause-follows : goal.returns-in-Ok-None-clause-follows
returns-in-Ok-None-clause-follows g c =
    let view = g.S.EawStore.view c.args.pages.now.store in
    let none : next (pairs_said c.reach.new.bytes) c.args.key ≡ None = (rw c.in-Ok-None.field-0-is at c.in-Ok-None.ensures.none) in
    walks_ok g.S.EawStore.tells (g.S.EawStore.calls c.args.pages.now.store) (g.S.EawStore.calls c.reach.new.pages.store) (along c.args.root c.args.key) (along c.args.root c.args.key)
    (index_pages_of view.shape) (index_pages_of view.shape) (Arrives c.args.key c.reach.new.bytes) (λ slot read. answered (λ pairs. led_to c.args.key (next pairs c.args.key)) c.args.key read ≡ Some slot) view (g.S.EawStore.view c.reach.new.pages.store) (λ read way. way) (omega arith) _ _ c.in-Ok-None.ensures.walks
    (λ read way ends. answer_is (λ pairs. led_to c.args.key (next pairs c.args.key)) c.args.key c.reach.new.bytes read ends.0 ∙ ap (λ (o : Option Pair). Some (led_to c.args.key o)) none)

pub returns-in_default-clause-follows : goal.returns-in_default-clause-follows
returns-in_default-clause-follows g c =
    let view = g.S.EawStore.view c.args.pages.now.store in
    let none : next (pairs_said c.reach.new.bytes) c.args.key ≡ None = sym c.next_pair.ensures ∙ c.in_default.is in
    walks_ok g.S.EawStore.tells (g.S.EawStore.calls c.args.pages.now.store) (g.S.EawStore.calls c.reach.new.pages.store) (along c.args.root c.args.key) (along c.args.root c.args.key)
    (index_pages_of view.shape) (index_pages_of view.shape) (Arrives c.args.key c.reach.new.bytes) (λ slot read. answered (λ pairs. led_to c.args.key (next pairs c.args.key)) c.args.key read ≡ Some slot) view (g.S.EawStore.view c.reach.new.pages.store) (λ read way. way) (omega arith) _ _ c.in-Ok-Some.ensures.walks
    (λ read way ends. answer_is (λ pairs. led_to c.args.key (next pairs c.args.key)) c.args.key c.reach.new.bytes read ends.0 ∙ ap (λ (o : Option Pair). Some (led_to c.args.key o)) none)

pub returns-then-slot-from-clause-follows : goal.returns-then-slot-from-clause-follows
returns-then-slot-from-clause-follows g c =
    let view = g.S.EawStore.view c.args.pages.now.store in
    walks_bad g.S.EawStore.tells (g.S.EawStore.calls c.args.pages.now.store) (g.S.EawStore.calls c.reach.new.pages.store) (along c.args.root c.args.key) (along c.args.root c.args.key)
    (index_pages_of view.shape) (index_pages_of view.shape) (Arrives c.args.key c.reach.new.bytes) (λ slot read. answered (λ pairs. led_to c.args.key (next pairs c.args.key)) c.args.key read ≡ Some slot) view (g.S.EawStore.view c.reach.new.pages.store) (λ read way. way) (omega arith) _ c.in-Ok-Some.at.page c.in-Ok-Some.ensures.walks
    (λ read ends. rw c.in-Ok-Some.field-0-is at ends.1)

pub returns-then-least-key-clause-follows : goal.returns-then-least-key-clause-follows
returns-then-least-key-clause-follows g c =
    let view = g.S.EawStore.view c.args.pages.now.store in
    let some : next (pairs_said c.reach.new.bytes) c.args.key ≡ Some (c.in-Some.least, c.in-Some.slot) = sym c.next_pair.ensures ∙ c.in-Some.is in
    walks_ok g.S.EawStore.tells (g.S.EawStore.calls c.args.pages.now.store) (g.S.EawStore.calls c.reach.new.pages.store) (along c.args.root c.args.key) (along c.args.root c.args.key)
    (index_pages_of view.shape) (index_pages_of view.shape) (Arrives c.args.key c.reach.new.bytes) (λ slot read. answered (λ pairs. led_to c.args.key (next pairs c.args.key)) c.args.key read ≡ Some slot) view (g.S.EawStore.view c.reach.new.pages.store) (λ read way. way) (omega arith) _ _ c.in-Ok-Some.ensures.walks
    (λ read way ends. answer_is (λ pairs. led_to c.args.key (next pairs c.args.key)) c.args.key c.reach.new.bytes read ends.0 ∙ ap (λ (o : Option Pair). Some (led_to c.args.key o)) some
    ∙ ap Some (led_here c.args.key (c.in-Some.least, c.in-Some.slot) c.if-least-key.true))

pub returns-else-least-key-clause-follows : goal.returns-else-least-key-clause-follows
returns-else-least-key-clause-follows g c =
    let view = g.S.EawStore.view c.args.pages.now.store in
    let some : next (pairs_said c.reach.new.bytes) c.args.key ≡ Some (c.in-Some.least, c.in-Some.slot) = sym c.next_pair.ensures ∙ c.in-Some.is in
    walks_ok g.S.EawStore.tells (g.S.EawStore.calls c.args.pages.now.store) (g.S.EawStore.calls c.reach.new.pages.store) (along c.args.root c.args.key) (along c.args.root c.args.key)
    (index_pages_of view.shape) (index_pages_of view.shape) (Arrives c.args.key c.reach.new.bytes) (λ slot read. answered (λ pairs. led_to c.args.key (next pairs c.args.key)) c.args.key read ≡ Some slot) view (g.S.EawStore.view c.reach.new.pages.store) (λ read way. way) (omega arith) _ _ c.in-Ok-Some.ensures.walks
    (λ read way ends. answer_is (λ pairs. led_to c.args.key (next pairs c.args.key)) c.args.key c.reach.new.bytes read ends.0 ∙ ap (λ (o : Option Pair). Some (led_to c.args.key o)) some
    ∙ ap Some (led_past c.args.key (c.in-Some.least, c.in-Some.slot) c.if-least-key.false))

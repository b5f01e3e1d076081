use Rattle.std.proofs.Common.{◌≡◌, ◌≢◌, ◌*◌, ◌<◌, ℕ, Option, Some, None, sym, ◌∙◌, ap, arith}
use Rattle.page_store.specs.Index.{index_pages_of, slots_of}
use Rattle.page_store.specs.Pairs.{Pair, next}
use Rattle.page_store.specs.Placed.{IsPlaceSaid, slot_sought}
use Rattle.index_pages.specs.Page.{pairs_said}
use Rattle.index_pages.proofs.Courses.{walks_ok, walks_bad, walks_err}
use Rattle.index_pages.proofs.Sizes.{slots_are}
use Rattle.key_list.specs.Along.{along, answered, chain_placing, led_to, Stays}
use Rattle.key_list.specs.Resting.{sound_table}
use Rattle.key_list.proofs.Placing.{room_none, room_inside, room_place, room_said, led_in_chain, led_given, led_some}
use Rattle.std.proofs.lemmas.Result.{err_from_is_err_and}
use Rattle.key_list.proofs.chain.KeyListKeyIndex.find_place.Goals as goal

pub returns-in_err-at-clause-follows : goal.returns-in_err-at-clause-follows
returns-in_err-at-clause-follows g c =
    let exit = err_from_is_err_and c.from_residual.result c.from_residual.ensures.1 in
    rw (exit.1, exit.2) (
    let view = g.S.EawStore.view c.args.pages.now.store in
    walks_err g.S.EawStore.tells (g.S.EawStore.calls c.args.pages.now.store) (g.S.EawStore.calls c.page_for.new.pages.store) (along c.args.root c.args.key) (along c.args.root c.args.key)
    (index_pages_of view.shape) (index_pages_of view.shape) (Stays c.args.key c.page_for.new.bytes) (λ sought read. (answered (λ pairs. led_to c.args.key (next pairs c.args.key)) c.args.key read ≡ Some (slot_sought sought)) × IsPlaceSaid (chain_placing c.args.key read) sought) view (g.S.EawStore.view c.page_for.new.pages.store) (λ read way. way) (omega arith) c.in_err-at.field-0.0 c.in_err-at.ensures.walks)

pub returns-in_default-clause-follows : goal.returns-in_default-clause-follows
returns-in_default-clause-follows g c =
    let view = g.S.EawStore.view c.args.pages.now.store in
    walks_ok g.S.EawStore.tells (g.S.EawStore.calls c.args.pages.now.store) (g.S.EawStore.calls c.page_for.new.pages.store) (along c.args.root c.args.key) (along c.args.root c.args.key)
    (index_pages_of view.shape) (index_pages_of view.shape) (Stays c.args.key c.page_for.new.bytes) (λ sought read. (answered (λ pairs. led_to c.args.key (next pairs c.args.key)) c.args.key read ≡ Some (slot_sought sought)) × IsPlaceSaid (chain_placing c.args.key read) sought) view (g.S.EawStore.view c.page_for.new.pages.store) (λ read way. way) (omega arith) _ _ c.in_ok-at.ensures.walks
    (λ read way ends. (
      ends.answer ∙ ap Some (sym c.slot_in.ensures ∙ c.in_default.is ∙ sym (room_none c.in_ok-at.at c.page_for.new.bytes c.room_in.result c.room_in.ensures)),
      room_said c.args.key c.in_ok-at.at c.page_for.new.bytes c.room_in.result read c.room_in.ensures c.in_ok-at.ensures.head.link ends.place,
    ))

pub returns-in_default-clause-found : goal.returns-in_default-clause-found
returns-in_default-clause-found g c = λ told.
    let view = g.S.EawStore.view c.args.pages.now.store in
    (room_none c.in_ok-at.at c.page_for.new.bytes c.room_in.result c.room_in.ensures) ∙ sym c.in_default.is ∙ c.slot_in.ensures
    ∙ led_in_chain view.state.bytes c.args.root c.args.table c.args.key c.in_ok-at.at.page c.page_for.new.bytes (sound_table view.state.bytes c.args.table c.args.root (c.requires.sound told c.in_ok-at.ensures.cause) (c.requires.named told c.in_ok-at.ensures.cause)) (c.in_ok-at.ensures.page told) (c.in_ok-at.ensures.bytes told)

pub returns-in_default-clause-place : goal.returns-in_default-clause-place
returns-in_default-clause-place g c = λ told.
    let view = g.S.EawStore.view c.args.pages.now.store in
    room_place view.state.bytes c.args.root c.args.key c.in_ok-at.at c.page_for.new.bytes c.room_in.result c.room_in.ensures (c.in_ok-at.ensures.page told) (c.in_ok-at.ensures.bytes told) c.in_ok-at.ensures.head.link

pub returns-in_default-clause-inside : goal.returns-in_default-clause-inside
returns-in_default-clause-inside g c =
    let view = g.S.EawStore.view c.args.pages.now.store in
    room_inside view.shape c.in_ok-at.at c.page_for.new.bytes c.room_in.result c.room_in.ensures c.in_ok-at.ensures.some c.in_ok-at.ensures.inside

pub returns-then-slot-from-clause-cause : goal.returns-then-slot-from-clause-cause
returns-then-slot-from-clause-cause g c =
    let view = g.S.EawStore.view c.args.pages.now.store in (
      c.in_ok-at.ensures.cause,
      λ told.
          let given = led_given view.state.bytes c.args.root c.args.table c.args.key c.in_ok-at.at.page c.in-Some.slot c.page_for.new.bytes (sound_table view.state.bytes c.args.table c.args.root (c.requires.sound told c.in_ok-at.ensures.cause) (c.requires.named told c.in_ok-at.ensures.cause)) (c.in_ok-at.ensures.page told) (c.in_ok-at.ensures.bytes told) (sym c.slot_in.ensures ∙ c.in-Some.is) in
          omega (arith, given, (c.requires.sound told c.in_ok-at.ensures.cause).0.slots, slots_are view.shape view.state.bytes (g.met.S.EawStore.long c.args.pages.now.store told), c.index_page_count-count.ensures.all, c.if-slot-from.true, c.from.ensures),
    )

pub returns-then-slot-from-clause-follows : goal.returns-then-slot-from-clause-follows
returns-then-slot-from-clause-follows g c =
    let view = g.S.EawStore.view c.args.pages.now.store in
    let p = led_some c.args.key c.in-Some.slot (next (pairs_said c.page_for.new.bytes) c.args.key) (sym c.slot_in.ensures ∙ c.in-Some.is) in
    walks_bad g.S.EawStore.tells (g.S.EawStore.calls c.args.pages.now.store) (g.S.EawStore.calls c.page_for.new.pages.store) (along c.args.root c.args.key) (along c.args.root c.args.key)
    (index_pages_of view.shape) (index_pages_of view.shape) (Stays c.args.key c.page_for.new.bytes) (λ sought read. (answered (λ pairs. led_to c.args.key (next pairs c.args.key)) c.args.key read ≡ Some (slot_sought sought)) × IsPlaceSaid (chain_placing c.args.key read) sought) view (g.S.EawStore.view c.page_for.new.pages.store) (λ read way. way) (omega arith) _ c.in_ok-at.at.page c.in_ok-at.ensures.walks
    (λ read ends. ends.last (λ none. (let e : None ≡ Some p.0 = sym none ∙ p.1 in absurd (cc))))

pub returns-clause-follows : goal.returns-clause-follows
returns-clause-follows g c =
    let view = g.S.EawStore.view c.args.pages.now.store in
    walks_ok g.S.EawStore.tells (g.S.EawStore.calls c.args.pages.now.store) (g.S.EawStore.calls c.page_for.new.pages.store) (along c.args.root c.args.key) (along c.args.root c.args.key)
    (index_pages_of view.shape) (index_pages_of view.shape) (Stays c.args.key c.page_for.new.bytes) (λ sought read. (answered (λ pairs. led_to c.args.key (next pairs c.args.key)) c.args.key read ≡ Some (slot_sought sought)) × IsPlaceSaid (chain_placing c.args.key read) sought) view (g.S.EawStore.view c.page_for.new.pages.store) (λ read way. way) (omega arith) _ _ c.in_ok-at.ensures.walks
    (λ read way ends. (ends.answer ∙ ap Some (sym c.slot_in.ensures ∙ c.in-Some.is), tt))

pub returns-clause-found : goal.returns-clause-found
returns-clause-found g c = λ told.
    let view = g.S.EawStore.view c.args.pages.now.store in
    sym c.in-Some.is ∙ c.slot_in.ensures
    ∙ led_in_chain view.state.bytes c.args.root c.args.table c.args.key c.in_ok-at.at.page c.page_for.new.bytes (sound_table view.state.bytes c.args.table c.args.root (c.requires.sound told c.in_ok-at.ensures.cause) (c.requires.named told c.in_ok-at.ensures.cause)) (c.in_ok-at.ensures.page told) (c.in_ok-at.ensures.bytes told)

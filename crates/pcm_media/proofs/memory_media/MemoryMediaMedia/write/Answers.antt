use Rattle.std.proofs.Common.{◌≡◌, ◌+◌, ◌≤◌, List, ℕ, refl, sym, ◌∙◌, ap, length, arith}
use Rattle.std.proofs.lemmas.Result.{err_from_is_err_and}
use Rattle.pcm_media.specs.declared.call.Call.TheVariants.{Write}
use Rattle.mars_base.specs.Bytes.{put}
use Rattle.pcm_media.specs.Images.{Content}
use Rattle.pcm_media.specs.Memory.{content_of, Memory}
use Rattle.pcm_media.proofs.MemoryLemmas.{Suits, does, tells_done, tells_failed, failed_spent, stays_of, content_done, content_lost, bytes_failed, step_written, written_back}
use Rattle.pcm_media.proofs.Promised.{keeps_promise}
use Rattle.pcm_media.proofs.memory_media.MemoryMediaMedia.write.Goals as goal

-- the range lies within the bytes that a read gives
fits : (memory whole : Memory) (at : ℕ) (bytes read : List ℕ) → whole ≡ memory → (content_of whole).bytes ≡ read → at + length bytes ≤ length (content_of memory).bytes → Suits (Write at (length bytes)) bytes (length read)
fits memory whole at bytes read is reads within = (refl, omega (arith, within, ap (λ m. length (content_of m).bytes) is, ap length reads))

pub invariant_of-self : goal.invariant_of-self
invariant_of-self c =
    let call = Write c.args.at (length c.args.bytes.now) in
    let suits = fits c.args.self.now _ c.args.at c.args.bytes.now c.self.inside.bytes.items c.self.view_is c.self.invariant.bytes c.requires in
    tells_failed c.self.inside.start.items c.self.inside.journal c.make.new.self call c.args.bytes.now c.self.inside.bytes.items c.self.invariant suits c.in_err-make.ensures.made.failed
    (failed_spent c.self.inside.start.items c.self.inside.journal c.make.new.self call c.args.bytes.now c.self.inside.bytes.items c.self.invariant suits _ c.in_err-make.ensures.made c.in_err-make.ensures.listed)

pub returns-in_err-make-clause-does : goal.returns-in_err-make-clause-does
returns-in_err-make-clause-does c =
    let p = err_from_is_err_and c.from_residual.result c.from_residual.ensures.1 in
    rw (p.1, ← c.self.view_is) (does c.self.inside.start.items c.self.inside.journal c.make.new.self (Write c.args.at (length c.args.bytes.now)) c.args.bytes.now c.self.inside.bytes.items c.self.invariant
    (fits c.args.self.now _ c.args.at c.args.bytes.now c.self.inside.bytes.items c.self.view_is c.self.invariant.bytes c.requires) _ c.in_err-make.ensures.made)

pub invariant_of-self-2 : goal.invariant_of-self-2
invariant_of-self-2 c =
    let items = c.self.inside.bytes.items in
    let suits = fits c.args.self.now _ c.args.at c.args.bytes.now items c.self.view_is c.self.invariant.bytes c.requires in
    let len : c.self.inside.bytes.len ≡ length items = omega arith in
    let content : Content = content_of (record { start = c.self.inside.start.items; kept = c.self.inside.journal }) in
    tells_done c.self.inside.start.items c.self.inside.journal c.make.new.self (Write c.args.at (length c.args.bytes.now)) c.args.bytes.now items c.self.invariant suits _
    ((λ i. (step_written c.args.at c.args.bytes.now content i).bytes) ∙ ap (λ (l : List ℕ). put l c.args.at c.args.bytes.now) c.self.invariant.bytes
    ∙ sym (written_back items c.deref_mut.result.now c.overwrite.new.bytes c.args.bytes.now c.args.at c.self.inside.bytes.len len c.deref_mut.ensures.value c.overwrite.ensures suits.1))
    c.in_ok-make.ensures.made.done (stays_of c.self.inside.start.items c.self.inside.journal c.make.new.self _ c.in_ok-make.ensures.made) c.in_ok-make.ensures.made.faults

pub returns-clause-written : goal.returns-clause-written
returns-clause-written c =
    let suits = fits c.args.self.now _ c.args.at c.args.bytes.now c.self.inside.bytes.items c.self.view_is c.self.invariant.bytes c.requires in
    rw (← c.self.view_is) (content_done c.self.inside.start.items c.self.inside.journal c.make.new.self (Write c.args.at (length c.args.bytes.now)) c.args.bytes.now c.self.inside.bytes.items c.self.invariant suits c.in_ok-make.ensures.made.done
    ∙ step_written c.args.at c.args.bytes.now (content_of (record { start = c.self.inside.start.items; kept = c.self.inside.journal })))

pub returns-clause-does : goal.returns-clause-does
returns-clause-does c = rw (← c.self.view_is) (does c.self.inside.start.items c.self.inside.journal c.make.new.self (Write c.args.at (length c.args.bytes.now)) c.args.bytes.now c.self.inside.bytes.items c.self.invariant
    (fits c.args.self.now _ c.args.at c.args.bytes.now c.self.inside.bytes.items c.self.view_is c.self.invariant.bytes c.requires) _ c.in_ok-make.ensures.made)

pub returns-clause-ticks : goal.returns-clause-ticks
returns-clause-ticks c = rw (← c.self.view_is) c.in_ok-make.ensures.made.ticks

pub returns-in_err-make-clause-err : goal.returns-in_err-make-clause-err
returns-in_err-make-clause-err c =
    let p = err_from_is_err_and c.from_residual.result c.from_residual.ensures.1 in
    rw (p.1, ← c.self.view_is) (bytes_failed c.self.inside.start.items c.self.inside.journal c.make.new.self (Write c.args.at (length c.args.bytes.now)) c.args.bytes.now c.self.inside.bytes.items c.self.invariant
    (fits c.args.self.now _ c.args.at c.args.bytes.now c.self.inside.bytes.items c.self.view_is c.self.invariant.bytes c.requires) c.in_err-make.ensures.made.failed)

pub returns-in_err-make-clause-lost : goal.returns-in_err-make-clause-lost
returns-in_err-make-clause-lost c =
    let p = err_from_is_err_and c.from_residual.result c.from_residual.ensures.1 in
    rw (p.1, ← c.self.view_is) (λ room low. content_lost c.self.inside.start.items c.self.inside.journal c.make.new.self (Write c.args.at (length c.args.bytes.now)) c.args.bytes.now c.self.inside.bytes.items c.self.invariant
    (fits c.args.self.now _ c.args.at c.args.bytes.now c.self.inside.bytes.items c.self.view_is c.self.invariant.bytes c.requires) _ c.in_err-make.ensures.made room.0 low)

pub returns-in_err-make-clause-steady : goal.returns-in_err-make-clause-steady
returns-in_err-make-clause-steady c =
    let p = err_from_is_err_and c.from_residual.result c.from_residual.ensures.1 in
    rw (p.1, ← c.self.view_is) (λ calls more. keeps_promise c.self.inside.journal c.make.new.self (Write c.args.at (length c.args.bytes.now)) c.args.bytes.now _ c.in_err-make.ensures.made c.in_err-make.ensures.listed calls more (length c.args.bytes.now + more) refl)

pub returns-clause-steady : goal.returns-clause-steady
returns-clause-steady c = rw (← c.self.view_is) (λ calls more. keeps_promise c.self.inside.journal c.make.new.self (Write c.args.at (length c.args.bytes.now)) c.args.bytes.now _ c.in_ok-make.ensures.made c.in_ok-make.ensures.listed calls more (length c.args.bytes.now + more) refl)

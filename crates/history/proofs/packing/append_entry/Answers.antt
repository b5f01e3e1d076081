use Rattle.std.proofs.Common.{ap, ◌∙◌, ◌++◌, List, ℕ}
use Rattle.std.proofs.lemmas.List.{append_assoc}
use Rattle.history.specs.Packed.{call_bytes, reply_bytes}
use Rattle.history.proofs.ReadAgain.{more_entries, more_packed}
use Rattle.history.proofs.packing.append_entry.Goals as goal

pub returns-in-Ok-clause-packed : goal.returns-in-Ok-clause-packed
returns-in-Ok-clause-packed c =
    let call = c.args.call.now in
    let reply = c.args.reply.now in
    more_packed c.args.bytes.now.items c.append_reply.new.bytes.items (call, reply) c.requires.packed (c.append_call.ensures.able, c.in-Ok.ensures.able)
    (c.in-Ok.ensures.ok ∙ ap (λ (b : List ℕ). b ++ reply_bytes reply) c.append_call.ensures.items ∙ append_assoc c.args.bytes.now.items (call_bytes call) (reply_bytes reply))

pub returns-in-Ok-clause-ok : goal.returns-in-Ok-clause-ok
returns-in-Ok-clause-ok c =
    let call = c.args.call.now in
    let reply = c.args.reply.now in
    more_entries c.args.bytes.now.items c.append_reply.new.bytes.items (call, reply) c.requires.packed (c.append_call.ensures.able, c.in-Ok.ensures.able)
    (c.in-Ok.ensures.ok ∙ ap (λ (b : List ℕ). b ++ reply_bytes reply) c.append_call.ensures.items ∙ append_assoc c.args.bytes.now.items (call_bytes call) (reply_bytes reply))

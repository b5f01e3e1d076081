-- What a reply among bytes stands for.
use Rattle.history.specs.declared.call.Reply.{Reply}
use Rattle.history.specs.declared.call.Reply.TheVariants.{Listed}
use Rattle.history.specs.declared.unpacking.Told.{Told}
use Rattle.history.specs.declared.unpacking.Told.TheVariants.{Rows, Plain}

-- the reply that is told: one that lists the rows, or another
abbrev pub told_reply : Told → Reply
told_reply (Rows rows) = Listed rows
told_reply (Plain reply) = reply

use Rattle.std.proofs.Common.{ℕ, Option, length, unwrap_or, ap}
use Rattle.mars_core.proofs.seats.Seats.stripes_for.Goals as goal

pub returns-in-Some-clause-busy : goal.returns-in-Some-clause-busy
returns-in-Some-clause-busy g c =
    let names = c.args.self.now.names in
    c.in-Some.ensures.busy c.args.asked.now (c.touched_by-masks.ensures names (ap (λ (o : Option ℕ). unwrap_or o (length names)) c.requires.table))

pub returns-in-None : goal.returns-in-None
returns-in-None g c =
    let names = c.args.self.now.names in
    let these = c.touched_by-masks.ensures names (ap (λ (o : Option ℕ). unwrap_or o (length names)) c.requires.table) in
    record { touches = these; free = c.in-None.ensures.free c.args.asked.now these; busy = tt }

pub returns-in-Held : goal.returns-in-Held
returns-in-Held g c =
    let names = c.args.self.now.names in
    record {
      touches = c.touched_by-masks.ensures names (ap (λ (o : Option ℕ). unwrap_or o (length names)) c.requires.table);
      free = c.requires.locked c.in-Held.is;
      busy = tt;
    }

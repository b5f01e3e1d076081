use Rattle.std.proofs.Common.{ℕ, refl, sym, ap, subst}
use Rattle.script_text.specs.EawLines.{told, bad, ShowsCall}
use Rattle.script_text.proofs.eaw_line.read_eaw.Goals as goal

pub returns-in-None : goal.returns-in-None
returns-in-None c = (bad, (c.if-is_passed_over.ensures, λ number raw is. c.in-None.ensures (number, raw) is), refl)

pub returns-in-Some : goal.returns-in-Some
returns-in-Some c =
    let read = c.in-Some.ensures in
    let raw = read.0.1 in (
      told read.0.0 raw,
      read.2,
      (raw, subst (λ (t : ℕ). ShowsCall t c.in-Some.call raw) (sym read.1.0) read.1.1, ap (λ number. told number raw) (sym read.1.0)),
    )

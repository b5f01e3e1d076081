use Rattle.std.proofs.Common.{Err, ap, sym, subst, refl}
use Rattle.array_runs.specs.Statuses.{IsEarly}
use Rattle.array_runs.proofs.opening.read_if.Goals as goal

pub returns-in-Ok-clause-ended : goal.returns-in-Ok-clause-ended
returns-in-Ok-clause-ended g c = λ asked told. (rw (c.in-Ok.ensures.all told) c.in-Ok.ensures.most, c.in-Ok.ensures.ended told)

pub returns-in-Err-TooLong-clause-input : goal.returns-in-Err-TooLong-clause-input
returns-in-Err-TooLong-clause-input g c = λ told. let long = c.in-Err-TooLong.ensures.too_long (ap Err c.in-Err-TooLong.field-0-is) in rw (long.2 told) long.1

pub returns-in-Err-TooLong-clause-counts : goal.returns-in-Err-TooLong-clause-counts
returns-in-Err-TooLong-clause-counts g c = (rw c.in-Err-TooLong.field-0-is at c.in-Err-TooLong.ensures.counts, refl, refl)

pub returns-in-Err-Failed-clause-counts : goal.returns-in-Err-Failed-clause-counts
returns-in-Err-Failed-clause-counts g c = (rw c.in-Err-Failed.field-0-is at c.in-Err-Failed.ensures.counts, refl, refl)

pub returns-in-Err-Failed-clause-steady : goal.returns-in-Err-Failed-clause-steady
returns-in-Err-Failed-clause-steady g c = λ steady is. c.in-Err-Failed.ensures.steady steady (ap Err c.in-Err-Failed.field-0-is)

pub returns-in-Err-NoMemory-clause-counts : goal.returns-in-Err-NoMemory-clause-counts
returns-in-Err-NoMemory-clause-counts g c = (rw c.in-Err-NoMemory.field-0-is at c.in-Err-NoMemory.ensures.counts, refl, refl)

pub returns-in-Err-NoMemory-clause-steady : goal.returns-in-Err-NoMemory-clause-steady
returns-in-Err-NoMemory-clause-steady g c = λ steady is. subst IsEarly (sym is) tt

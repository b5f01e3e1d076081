use Rattle.std.proofs.Common.{codes, refl, sym}
use Rattle.clap.specs.Words.{found_of, rows_of}
use Rattle.command_words.proofs.AskedLemmas.{met_is, some_is_none, none_other, none_said, no_run, no_callers, no_drill, no_format, no_make}
use Rattle.command_words.proofs.words.asked.Goals as goal

pub returns-in_err-writing-in-run : goal.returns-in_err-writing-in-run
returns-in_err-writing-in-run c =
    rw c.from_residual-in_err-writing-in-run.ensures (none_said c.args.matches.now (codes "run") c.in_ok-name.name.now (rows_of (found_of c.in_ok-name.options.now))
    c.in-run.is c.in_ok-name.ensures.name c.in_ok-name.ensures.rows (no_run (rows_of (found_of c.in_ok-name.options.now)) (λ given gives. c.in_err-writing-in-run.ensures given.writing gives)))

pub returns-in_err-numbers-in-callers : goal.returns-in_err-numbers-in-callers
returns-in_err-numbers-in-callers c =
    rw c.from_residual-in_err-numbers-in-callers.ensures (none_said c.args.matches.now (codes "callers") c.in_ok-name.name.now (rows_of (found_of c.in_ok-name.options.now))
    c.in-callers.is c.in_ok-name.ensures.name c.in_ok-name.ensures.rows (no_callers (rows_of (found_of c.in_ok-name.options.now)) c.in_err-numbers-in-callers.ensures))

pub returns-in_err-numbers-in-drill : goal.returns-in_err-numbers-in-drill
returns-in_err-numbers-in-drill c =
    rw c.from_residual-in_err-numbers-in-drill.ensures (none_said c.args.matches.now (codes "drill") c.in_ok-name.name.now (rows_of (found_of c.in_ok-name.options.now))
    c.in-drill.is c.in_ok-name.ensures.name c.in_ok-name.ensures.rows (no_drill (rows_of (found_of c.in_ok-name.options.now)) c.in_err-numbers-in-drill.ensures))

pub returns-in_err-numbers-in-format : goal.returns-in_err-numbers-in-format
returns-in_err-numbers-in-format c =
    rw c.from_residual-in_err-numbers-in-format.ensures (none_said c.args.matches.now (codes "format") c.in_ok-name.name.now (rows_of (found_of c.in_ok-name.options.now))
    c.in-format.is c.in_ok-name.ensures.name c.in_ok-name.ensures.rows (no_format (rows_of (found_of c.in_ok-name.options.now)) c.in_err-numbers-in-format.ensures))

pub returns-in_err-table-in-make : goal.returns-in_err-table-in-make
returns-in_err-table-in-make c =
    rw c.from_residual-in_err-table-in-make.ensures (none_said c.args.matches.now (codes "make") c.in_ok-name.name.now (rows_of (found_of c.in_ok-name.options.now))
    c.in-make.is c.in_ok-name.ensures.name c.in_ok-name.ensures.rows (no_make (rows_of (found_of c.in_ok-name.options.now)) c.in_err-table-in-make.ensures))

pub returns-in_ok-table-in-make : goal.returns-in_ok-table-in-make
returns-in_ok-table-in-make c = (c.in_ok-name.name.now, rows_of (found_of c.in_ok-name.options.now), met_is c.args.matches.now c.in_ok-name.name.now (rows_of (found_of c.in_ok-name.options.now)) c.in_ok-name.ensures.name c.in_ok-name.ensures.rows, (c.in-make.is, c.in_ok-table-in-make.ensures.1, c.in_ok-table-in-make.ensures.2))

pub returns-in_ok-writing-in-run : goal.returns-in_ok-writing-in-run
returns-in_ok-writing-in-run c = (c.in_ok-name.name.now, rows_of (found_of c.in_ok-name.options.now), met_is c.args.matches.now c.in_ok-name.name.now (rows_of (found_of c.in_ok-name.options.now)) c.in_ok-name.ensures.name c.in_ok-name.ensures.rows, (c.in-run.is, c.in_ok-writing-in-run.ensures, c.read_flag-frames.ensures))

pub returns-in-eaw : goal.returns-in-eaw
returns-in-eaw c = (c.in_ok-name.name.now, rows_of (found_of c.in_ok-name.options.now), met_is c.args.matches.now c.in_ok-name.name.now (rows_of (found_of c.in_ok-name.options.now)) c.in_ok-name.ensures.name c.in_ok-name.ensures.rows, (c.in-eaw.is, c.read_flag-frames-in-eaw.ensures))

pub returns-in-dump : goal.returns-in-dump
returns-in-dump c = (c.in_ok-name.name.now, rows_of (found_of c.in_ok-name.options.now), met_is c.args.matches.now c.in_ok-name.name.now (rows_of (found_of c.in_ok-name.options.now)) c.in_ok-name.ensures.name c.in_ok-name.ensures.rows, c.in-dump.is)

pub returns-in-purge : goal.returns-in-purge
returns-in-purge c = (c.in_ok-name.name.now, rows_of (found_of c.in_ok-name.options.now), met_is c.args.matches.now c.in_ok-name.name.now (rows_of (found_of c.in_ok-name.options.now)) c.in_ok-name.ensures.name c.in_ok-name.ensures.rows, c.in-purge.is)

pub returns-in-follow : goal.returns-in-follow
returns-in-follow c = (c.in_ok-name.name.now, rows_of (found_of c.in_ok-name.options.now), met_is c.args.matches.now c.in_ok-name.name.now (rows_of (found_of c.in_ok-name.options.now)) c.in_ok-name.ensures.name c.in_ok-name.ensures.rows, c.in-follow.is)

pub returns-in_ok-numbers-in-callers : goal.returns-in_ok-numbers-in-callers
returns-in_ok-numbers-in-callers c = (c.in_ok-name.name.now, rows_of (found_of c.in_ok-name.options.now), met_is c.args.matches.now c.in_ok-name.name.now (rows_of (found_of c.in_ok-name.options.now)) c.in_ok-name.ensures.name c.in_ok-name.ensures.rows, (c.in-callers.is, c.in_ok-numbers-in-callers.ensures))

pub returns-in_ok-numbers-in-drill : goal.returns-in_ok-numbers-in-drill
returns-in_ok-numbers-in-drill c = (c.in_ok-name.name.now, rows_of (found_of c.in_ok-name.options.now), met_is c.args.matches.now c.in_ok-name.name.now (rows_of (found_of c.in_ok-name.options.now)) c.in_ok-name.ensures.name c.in_ok-name.ensures.rows, (c.in-drill.is, c.in_ok-numbers-in-drill.ensures.1, c.in_ok-numbers-in-drill.ensures.2, c.in_ok-numbers-in-drill.ensures.3))

pub returns-in_ok-numbers-in-format : goal.returns-in_ok-numbers-in-format
returns-in_ok-numbers-in-format c = (c.in_ok-name.name.now, rows_of (found_of c.in_ok-name.options.now), met_is c.args.matches.now c.in_ok-name.name.now (rows_of (found_of c.in_ok-name.options.now)) c.in_ok-name.ensures.name c.in_ok-name.ensures.rows, (c.in-format.is, c.in_ok-numbers-in-format.ensures))

pub returns-in_err-name : goal.returns-in_err-name
returns-in_err-name c =
    rw c.from_residual.ensures (λ name options asked met says. some_is_none (sym (rw met at c.in_err-name.ensures.rows)))

pub returns-in_default : goal.returns-in_default
returns-in_default c =
    let options = rows_of (found_of c.in_ok-name.options.now) in
    none_said c.args.matches.now c.in_ok-name.name.now c.in_ok-name.name.now options refl c.in_ok-name.ensures.name c.in_ok-name.ensures.rows
    (none_other c.in_ok-name.name.now c.in_default.not-run c.in_default.not-callers c.in_default.not-eaw c.in_default.not-dump c.in_default.not-drill c.in_default.not-format c.in_default.not-make c.in_default.not-purge c.in_default.not-follow options)

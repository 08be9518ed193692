use Rattle.std.proofs.Common.{◌≡◌, ◌<◌, ◌+◌, take, length, refl, ap, ◌∙◌, subst, arith, rules, Ok}
use Rattle.std.specs.Result.{is_ok}
use Rattle.std.proofs.lemmas.List.{take_all}
use Rattle.play_log.specs.Gathering.{Puts}
use Rattle.play_log.specs.Spelled.{spelled_from}
use Rattle.play_log.proofs.Gathering.{puts_failed, puts_none, puts_ok, puts_then}
use Rattle.play_log.proofs.Spelling.{spelled_left, spelled_next}
use Rattle.play_log.proofs.log_text.put_lines.Goals as goal

pub loop-line-init : goal.loop-line-init
loop-line-init g c = record {
  within = omega arith;
  number = omega arith;
  puts = puts_none _ c.args.held.now.held tt;
  keeps = record { name = refl; later = omega arith };
  faults = refl;
}

pub returns-in_err-put_line-clause-puts : goal.returns-in_err-put_line-clause-puts
returns-in_err-put_line-clause-puts g c =
    let i = c.loop-line.line-index in
    let b : i < length c.args.lines.now = search rules in
    let number : c.loop-line.number + 1 ≡ c.args.before + 1 + i = omega (arith, c.loop-line.invariant.number) in
    puts_failed _ _ c.args.held.now.held _ (spelled_from c.args.words.now (c.args.before + 1) (take (i + 1) c.args.lines.now)) _ _ c.put_line.result c.from_residual.result c.from_residual.ensures.0
    (puts_then _ _ _ c.args.held.now.held _ _ (spelled_from c.args.words.now (c.args.before + 1) (take i c.args.lines.now)) _ _ _ c.put_line.result refl c.loop-line.invariant.puts c.put_line.ensures.puts (spelled_next c.args.words.now (c.args.before + 1) i _ c.args.lines.now _ b number))
    (spelled_left c.args.words.now (c.args.before + 1) (i + 1) c.args.lines.now)

pub loop-line-preserved : goal.loop-line-preserved
loop-line-preserved g c =
    let i = c.loop-line.line-index in
    let b : i < length c.args.lines.now = search rules in
    let number : c.loop-line.number + 1 ≡ c.args.before + 1 + i = omega (arith, c.loop-line.invariant.number) in
    record {
      within = omega arith;
      number = omega (arith, c.loop-line.invariant.number);
      puts = puts_ok _ _ c.args.held.now.held _ _ c.put_line.result tt (ap is_ok c.in_ok-put_line.was)
          (puts_then _ _ _ c.args.held.now.held _ _ (spelled_from c.args.words.now (c.args.before + 1) (take i c.args.lines.now)) _ _ _ c.put_line.result refl c.loop-line.invariant.puts c.put_line.ensures.puts (spelled_next c.args.words.now (c.args.before + 1) i _ c.args.lines.now _ b number));
      keeps = record { name = c.put_line.ensures.keeps_sink.name ∙ c.loop-line.invariant.keeps.name; later = omega (arith, c.put_line.ensures.keeps_sink.later, c.loop-line.invariant.keeps.later) };
      faults = search rules;
    }

pub returns-clause-puts : goal.returns-clause-puts
returns-clause-puts g c =
    puts_ok _ _ c.args.held.now.held _ _ _ c.loop-line.number refl
    (subst (λ lines. Puts {T = Unit {0}} {E = Unit {0}} (g.K.Sink.told c.args.sink.now) (g.K.Sink.told c.loop-line.sink) c.args.held.now.held c.loop-line.held.held (spelled_from c.args.words.now (c.args.before + 1) lines) (Ok tt))
    (take_all c.loop-line.line-index c.args.lines.now c.loop-line-test.false) c.loop-line.invariant.puts)

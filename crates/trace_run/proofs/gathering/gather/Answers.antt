use Rattle.std.proofs.Common.{◌≡◌, rules}
use Rattle.std.specs.Io.KnownBytes.{append_known}
use Rattle.outside_io.proofs.Fronts.{front-after}
use Rattle.trace_run.proofs.Written.{ok_so, err_so, passed_both}
use Rattle.trace_run.proofs.gathering.gather.Goals as goal

pub returns-clause-passed : goal.returns-clause-passed
returns-clause-passed g c =
    let old = g.O.Sink.told c.args.out.now in
    let mid = g.O.Sink.told c.write.new.out in
    let new = g.O.Sink.told c.write-2.new.out in
    let before = c.args.waiting.now.items in
    let line = c.args.line.now in
    let first : mid ≡ append_known old before = search rules in
    ok_so c.write-2.result c.write-2.ensures.whole (λ then. passed_both old mid new before line c.clear.new.self.items first then c.clear.ensures.items)

pub returns-clause-front : goal.returns-clause-front
returns-clause-front g c =
    let old = g.O.Sink.told c.args.out.now in
    let mid = g.O.Sink.told c.write.new.out in
    let new = g.O.Sink.told c.write-2.new.out in
    let before = c.args.waiting.now.items in
    let line = c.args.line.now in
    let first : mid ≡ append_known old before = search rules in
    err_so c.write-2.result (front-after old mid new before line first c.write-2.ensures.front)

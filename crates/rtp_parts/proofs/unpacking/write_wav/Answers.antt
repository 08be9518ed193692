use Rattle.std.proofs.Common.{drop, ap, subst, ◌∙◌}
use Rattle.std.specs.Io.KnownBytes.{append_known}
use Rattle.outside_io.specs.Moves.{AppendsFront}
use Rattle.rtp_parts.specs.Packets.{silence_of}
use Rattle.rtp_parts.specs.Steps.{whole_codes}
use Rattle.rtp_parts.proofs.WavSent.{head_put, wav-front_head, wav-front_codes, wav-front_pad, wav-front_even, wav-whole_pad, wav-whole_even}
use Rattle.rtp_parts.proofs.unpacking.write_wav.Goals as goal

pub returns-in-Err-clause-front : goal.returns-in-Err-clause-front
returns-in-Err-clause-front g c = λ bytes is long.
    let head = head_put c.args.companding c.args.frames _ _ c.format_of.ensures c.head_bytes-len.ensures.written in
    wav-front_head (g.K.Sink.told c.args.snk.now) (g.K.Sink.told c.write_all.new.sink) c.args.companding c.args.frames (whole_codes (silence_of c.args.companding) (drop (g.S.Source.offset c.args.src.now) bytes)) long
    (subst (AppendsFront (g.K.Sink.told c.args.snk.now) (g.K.Sink.told c.write_all.new.sink)) head c.write_all.ensures.front)

pub returns-in_err-write_codes-clause-front : goal.returns-in_err-write_codes-clause-front
returns-in_err-write_codes-clause-front g c = λ bytes is long.
    let head = head_put c.args.companding c.args.frames _ _ c.format_of.ensures c.head_bytes-len.ensures.written in
    wav-front_codes (g.K.Sink.told c.args.snk.now) (g.K.Sink.told c.write_all.new.sink) (g.K.Sink.told c.write_codes.new.snk) c.args.companding c.args.frames (whole_codes (silence_of c.args.companding) (drop (g.S.Source.offset c.args.src.now) bytes)) long
    (c.in-Ok.ensures.whole ∙ ap (append_known (g.K.Sink.told c.args.snk.now)) head) (c.write_codes.ensures.front bytes is)

pub returns-in-Ok-write_all-clause-file : goal.returns-in-Ok-write_all-clause-file
returns-in-Ok-write_all-clause-file g c = λ bytes is long.
    let head = head_put c.args.companding c.args.frames _ _ c.format_of.ensures c.head_bytes-len.ensures.written in
    wav-whole_pad (g.K.Sink.told c.args.snk.now) (g.K.Sink.told c.write_all.new.sink) (g.K.Sink.told c.write_codes.new.snk) (g.K.Sink.told c.write_all-then-frames-eq1.new.sink) c.args.companding c.args.frames (whole_codes (silence_of c.args.companding) (drop (g.S.Source.offset c.args.src.now) bytes)) long c.if-frames-eq1.true
    (c.in-Ok.ensures.whole ∙ ap (append_known (g.K.Sink.told c.args.snk.now)) head) (c.in_ok-write_codes.ensures.whole bytes is) c.in-Ok-write_all.ensures.whole

pub returns-in-Ok-write_all-clause-front : goal.returns-in-Ok-write_all-clause-front
returns-in-Ok-write_all-clause-front g c = λ bytes is long.
    let head = head_put c.args.companding c.args.frames _ _ c.format_of.ensures c.head_bytes-len.ensures.written in
    wav-front_pad (g.K.Sink.told c.args.snk.now) (g.K.Sink.told c.write_all.new.sink) (g.K.Sink.told c.write_codes.new.snk) (g.K.Sink.told c.write_all-then-frames-eq1.new.sink) c.args.companding c.args.frames (whole_codes (silence_of c.args.companding) (drop (g.S.Source.offset c.args.src.now) bytes)) long c.if-frames-eq1.true
    (c.in-Ok.ensures.whole ∙ ap (append_known (g.K.Sink.told c.args.snk.now)) head) (c.in_ok-write_codes.ensures.whole bytes is) c.write_all-then-frames-eq1.ensures.front

pub returns-in-Err-write_all-clause-front : goal.returns-in-Err-write_all-clause-front
returns-in-Err-write_all-clause-front g c = λ bytes is long.
    let head = head_put c.args.companding c.args.frames _ _ c.format_of.ensures c.head_bytes-len.ensures.written in
    wav-front_pad (g.K.Sink.told c.args.snk.now) (g.K.Sink.told c.write_all.new.sink) (g.K.Sink.told c.write_codes.new.snk) (g.K.Sink.told c.write_all-then-frames-eq1.new.sink) c.args.companding c.args.frames (whole_codes (silence_of c.args.companding) (drop (g.S.Source.offset c.args.src.now) bytes)) long c.if-frames-eq1.true
    (c.in-Ok.ensures.whole ∙ ap (append_known (g.K.Sink.told c.args.snk.now)) head) (c.in_ok-write_codes.ensures.whole bytes is) c.write_all-then-frames-eq1.ensures.front

pub returns-else-frames-eq1-clause-file : goal.returns-else-frames-eq1-clause-file
returns-else-frames-eq1-clause-file g c = λ bytes is long.
    let head = head_put c.args.companding c.args.frames _ _ c.format_of.ensures c.head_bytes-len.ensures.written in
    wav-whole_even (g.K.Sink.told c.args.snk.now) (g.K.Sink.told c.write_all.new.sink) (g.K.Sink.told c.write_codes.new.snk) c.args.companding c.args.frames (whole_codes (silence_of c.args.companding) (drop (g.S.Source.offset c.args.src.now) bytes)) long c.if-frames-eq1.false
    (c.in-Ok.ensures.whole ∙ ap (append_known (g.K.Sink.told c.args.snk.now)) head) (c.in_ok-write_codes.ensures.whole bytes is)

pub returns-else-frames-eq1-clause-front : goal.returns-else-frames-eq1-clause-front
returns-else-frames-eq1-clause-front g c = λ bytes is long.
    let head = head_put c.args.companding c.args.frames _ _ c.format_of.ensures c.head_bytes-len.ensures.written in
    wav-front_even (g.K.Sink.told c.args.snk.now) (g.K.Sink.told c.write_all.new.sink) (g.K.Sink.told c.write_codes.new.snk) c.args.companding c.args.frames (whole_codes (silence_of c.args.companding) (drop (g.S.Source.offset c.args.src.now) bytes)) long c.if-frames-eq1.false
    (c.in-Ok.ensures.whole ∙ ap (append_known (g.K.Sink.told c.args.snk.now)) head) (c.in_ok-write_codes.ensures.whole bytes is)

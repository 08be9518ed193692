use Rattle.std.proofs.Common.{◌∙◌, ap, sym}
use Rattle.std.proofs.lemmas.List.{take_rest}
use Rattle.byteorder.specs.Endian.{big_from}
use Rattle.rtp_parts.proofs.PacketRead.{fields_are}
use Rattle.rtp_parts.proofs.packet.read_packet.Goals as goal

pub returns-in-Some-clause-packet : goal.returns-in-Some-clause-packet
returns-in-Some-clause-packet c =
    fields_are c.args.bytes.now c.in-Some.companding c.head_end.result c.padding.result c.read_u32.result c.read_u16.result c.read_u32-in-Some.result
    (sym c.is_well_formed.ensures ∙ c.if-not-is_well_formed.false) (sym c.companding_of_type.ensures ∙ c.in-Some.is)
    c.head_end.ensures.inside c.padding.ensures
    (c.read_u32.ensures ∙ ap (big_from 0 4) (take_rest c.args.bytes.now 8))
    (c.read_u16.ensures ∙ ap (big_from 0 2) (take_rest c.args.bytes.now 2))
    (c.read_u32-in-Some.ensures ∙ ap (big_from 0 4) (take_rest c.args.bytes.now 4))

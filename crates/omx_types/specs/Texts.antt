-- What a script, a file of packets and a log are told to be refused for, in words.
use Rattle.std.specs.Prelude.{ℕ, List, codes}
use Rattle.omx_types.specs.declared.fault.ScriptWhy.{ScriptWhy}
use Rattle.omx_types.specs.declared.fault.ScriptWhy.TheVariants as Whys
use Rattle.omx_types.specs.declared.fault.PacketsWhy.{PacketsWhy}
use Rattle.omx_types.specs.declared.fault.PacketsWhy.TheVariants as Packets
use Rattle.omx_types.specs.declared.fault.AuditWhy.{AuditWhy}
use Rattle.omx_types.specs.declared.fault.AuditWhy.TheVariants as Audits

abbrev pub why_text : ScriptWhy → List ℕ
why_text Whys.TooLong = codes "too long"
why_text Whys.NotText = codes "not text"
why_text Whys.FirstLine = codes "first line"
why_text Whys.BadWord = codes "bad word"
why_text Whys.UnknownName = codes "unknown name"
why_text Whys.NameTwice = codes "name twice"
why_text Whys.TooMany = codes "too many"
why_text Whys.PortTwice = codes "port twice"
why_text Whys.OpenPort = codes "open port"
why_text Whys.TooManyBlocks = codes "too many blocks"
why_text Whys.Cycle = codes "cycle"
why_text Whys.Wrong = codes "wrong format"
why_text Whys.Small = codes "block too small"
why_text Whys.Differ = codes "formats differ"

abbrev pub packets_text : PacketsWhy → List ℕ
packets_text Packets.WrongFormat = codes "not G.711 mono 8000"
packets_text Packets.NotPackets = codes "not a packet file"
packets_text Packets.NoPackets = codes "no packets"
packets_text Packets.TooLong = codes "too long"

-- why a line of a log isn't that of a run
abbrev pub audit_text : AuditWhy → List ℕ
audit_text Audits.BadLine = codes "not canonical"
audit_text Audits.OtherAct = codes "not of a play"
audit_text Audits.NotOut = codes "not out"
audit_text Audits.OtherReply = codes "other reply"
audit_text Audits.OtherFile = codes "other file"
audit_text Audits.NotEnded = codes "not ended"

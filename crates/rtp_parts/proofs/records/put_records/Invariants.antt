use Rattle.std.proofs.Common.{◌≡◌, ℕ, ◌*◌, ◌≤◌, List, length, take, drop}
use Rattle.rtp_parts.specs.Packing.{packet_count, texts_of}
use Rattle.rtp_parts.proofs.records.put_records.Given as goal

abbrev pub invariant-loop-k : goal.invariant-loop-k
invariant-loop-k l = record {
  room : l.at ≤ 174 * l.k;
  texts : (all : List ℕ) → l.samples ≡ take (160 * packet_count (length l.samples)) (drop (160 * l.first) all) → take l.at l.out ≡ texts_of l.companding all l.first l.k;
}

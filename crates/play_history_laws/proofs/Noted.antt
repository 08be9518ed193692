-- At most one fault of a component is queued as a note, and none where no step of it failed.
use Rattle.std.proofs.Common.{◌≡◌, ◌≤◌, ℕ, Bool, true, false, slice_get, Some, ap, arith}
use Rattle.il_machine.specs.World.{Component, World}
use Rattle.read_world_laws.proofs.Faults.{faults_in, one_if}
use Rattle.play_history_laws.specs.Faults.{AreNoted}
use Rattle.play_history_laws.proofs.Staying.{KeepsFailed}

pub noted_on : (w v : World) → KeepsFailed w v → AreNoted w → AreNoted v
noted_on w v K N i d e =
    let k = K i d e in
    let m = k.3 in
    let n = N i k.0 k.1 in
    let f : one_if d.part.failed ≡ one_if (k.0).part.failed = ap one_if k.2 in
    omega (arith, m, n, f)

one_at_most : (b : Bool) (n : ℕ) → n ≤ one_if b → n ≤ 1
one_at_most true n h = h
one_at_most false n h = omega (arith, h)

pub few_faults : (w : World) → AreNoted w → (i : ℕ) (c : Component) → slice_get w.components i ≡ Some c → faults_in c.notes ≤ 1
few_faults w N i c e = one_at_most c.part.failed (faults_in c.notes) (N i c e)

pub none_noted : (w : World) → AreNoted w → (i : ℕ) (c : Component) → slice_get w.components i ≡ Some c → c.part.failed ≡ false → faults_in c.notes ≡ 0
none_noted w N i c e f =
    let n = N i c e in
    let z : one_if c.part.failed ≡ 0 = ap one_if f in
    omega (arith, n, z)

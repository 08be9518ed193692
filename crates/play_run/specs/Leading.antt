-- What leads on leads further, and so does what fails, where what stays of a file object stays over two steps, and what a fault shows since one
-- time it shows since an earlier one.
use Rattle.std.specs.Prelude.{refl}
use Rattle.std.proofs.Common.{◌∙◌}
use Rattle.omx_types.specs.declared.fault.PartFault.{PartFault}
use Rattle.audio_parts.specs.Objects.{Held}
use Rattle.il_graph.specs.Shown.{file_of}
use Rattle.play_run.specs.declared.failure.Failure.{Failure}
use Rattle.play_run.specs.declared.failure.Stop.{Stop}
use Rattle.play_run.specs.declared.failure.Stop.TheVariants as stops
use Rattle.play_run.specs.Playing.{LeadsOn, PlayingValue, unfailed}
use Rattle.play_run.specs.Turning.{BreaksOff, FailsOn}

module _ {S K : Type 0} (Stays : Held S K → Held S K → Type 0) (Shows : PartFault → Held S K → Held S K → Type 0) where
  pub leads_to_itself : ((a : Held S K) → Stays a a) → (x : PlayingValue S K) → LeadsOn Stays x x
  leads_to_itself itself x = record { plan = refl; objects = λ n. itself (unfailed (file_of n x.graph)); plays = λ p Y. (p, Y, refl) }

  pub leads_on : ((a b c : Held S K) → Stays a b → Stays b c → Stays a c) → (x y z : PlayingValue S K) → LeadsOn Stays x y → LeadsOn Stays y z → LeadsOn Stays x z
  leads_on further x y z A B = record {
    plan = B.plan ∙ A.plan;
    objects = λ n. further (unfailed (file_of n x.graph)) (unfailed (file_of n y.graph)) (unfailed (file_of n z.graph)) (A.objects n) (B.objects n);
    plays = λ p Y.
        let a = A.plays p Y in
        let b = B.plays a.0 a.1 in
        (b.0, b.1, b.2 ∙ a.2);
  }

  pub fails_on : ((a b c : Held S K) → Stays a b → Stays b c → Stays a c) → ((fault : PartFault) (a b c : Held S K) → Stays a b → Shows fault b c → Shows fault a c)
      → (x y z : PlayingValue S K) (failure : Failure) → LeadsOn Stays x y → FailsOn Stays Shows y z failure → FailsOn Stays Shows x z failure
  fails_on further earlier x y z failure A B = record {
    plan = B.plan ∙ A.plan;
    objects = λ n.
        let b = B.objects n in
        (b.0, further (unfailed (file_of n x.graph)) (unfailed (file_of n y.graph)) (record { failed = b.0; file = file_of n z.graph }) (A.objects n) b.1);
    shows =
        let b = B.shows in
        (b.0, earlier failure.fault (unfailed (file_of failure.component x.graph)) (unfailed (file_of failure.component y.graph)) (record { failed = b.0; file = file_of failure.component z.graph }) (A.objects failure.component) b.1);
    fails = λ p Y.
        let a = A.plays p Y in
        let b = B.fails a.0 a.1 in
        (b.0, b.1 ∙ a.2);
  }

  pub breaks_off : ((a b c : Held S K) → Stays a b → Stays b c → Stays a c) → ((fault : PartFault) (a b c : Held S K) → Stays a b → Shows fault b c → Shows fault a c)
      → (x y z : PlayingValue S K) (stop : Stop) → LeadsOn Stays x y → BreaksOff Stays Shows y z stop → BreaksOff Stays Shows x z stop
  breaks_off further earlier x y z (stops.Failed failure) A B = fails_on further earlier x y z failure A B
  breaks_off further earlier x y z stops.OutOfMemory A B = (leads_on further x y z A B.0, B.1)

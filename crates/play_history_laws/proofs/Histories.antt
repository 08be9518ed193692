-- Each act of a history leads from a world of a play to one.
use Rattle.std.proofs.Common.{inl, inr, ℕ, refl, sym, subst, arith}
use Rattle.il_machine.specs.Acts.{Act, Reply}
use Rattle.il_machine.specs.Due.{IsClosed}
use Rattle.il_machine.specs.Run.{Meets, Step}
use Rattle.il_machine.specs.World.{World}
use Rattle.play_model.specs.Play.{Play}
use Rattle.play_world_laws.specs.Openings.{opening}
use Rattle.play_world_laws.specs.PlayWorlds.{IsPlayWorld, PlayCast}
use Rattle.play_world_laws.specs.Waiting.{IsWaiting}
use Rattle.play_history_laws.specs.Following.{IsPlayed}
use Rattle.play_history_laws.specs.Histories.{IsAllowed}
use Rattle.play_history_laws.specs.Order.{Cursor, nothing_asked}
use Rattle.play_history_laws.proofs.Asked.{asked}
use Rattle.play_history_laws.proofs.Following.{follows_on}
use Rattle.play_history_laws.proofs.Onward.{goes_unasked}
use Rattle.play_history_laws.proofs.Unasked.{unasked}
use Rattle.play_history_laws.proofs.Coming.{HasCome}

-- where nothing was asked
pub begins_played : (x : PlayCast) (recent : ℕ) (w : World) → IsPlayWorld x recent opening w → IsWaiting (x.cast).layout opening → IsClosed w → IsPlayed x (nothing_asked x.cast) recent opening w
begins_played x recent w W N Z = record {
  play = W;
  waiting = N;
  closed = Z;
  follows = record {
    phase = refl;
    unsent = λ c b h. let l = (W.cast_is).placed c b in absurd (omega (arith, l, h));
    sent = λ c b h e. absurd (omega (arith, e));
    few = λ l b t z. omega arith;
    some = λ l b t m. absurd (omega (arith, m));
    turn = λ l b t. inl refl;
  };
}

pub one_act : (x : PlayCast) (k : Cursor) (recent : ℕ) (p : Play) (w : World) (a : Act) (r : Reply) (v : World) (j : Cursor) → IsPlayed x k recent p w → Meets w a → Step w a r v → IsAllowed x k w a j → HasCome x k recent p j w v
one_act x k recent p w a r v j D m s A = elim A [
  | inl O ↦
      let T = unasked x recent p w D.play D.waiting D.closed a r v O.0 m s in
      let M = T.1 in
      subst (λ (i : Cursor). HasCome x k recent p i w v) (sym O.1) (record {
        recent = recent;
        now = T.0;
        played = record { play = M.play; waiting = M.waiting; closed = M.closed; follows = follows_on x.cast k recent p T.0 M.keeps D.follows };
        goes = goes_unasked (x.cast).layout k recent p T.0 M.keeps M.later;
        streams = T.2;
      })
  | inr B ↦ asked x k recent p w D a r v j B s
]

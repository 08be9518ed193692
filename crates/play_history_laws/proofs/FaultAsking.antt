-- What may be asked doesn't look at what went through the files.
use Rattle.std.proofs.Common.{inl, inr, ℕ, zero, suc, ◌+◌, List, Option, Some, None}
use Rattle.il_machine.specs.Acts.{Act}
use Rattle.il_machine.specs.World.{Stream, World}
use Rattle.play_world_laws.specs.PlayWorlds.{PlayCast}
use Rattle.play_history_laws.specs.Order.{Cursor, IsAsked, IsChangeAct, IsDone, IsDoneBy, IsSending, IsStateTold}

module _ (x : PlayCast) (w : World) (ss : List Stream) where
  abbrev v : World
  v = record w { streams = ss }

  sending : (phase place : ℕ) (a : Act) → IsSending x.cast w phase place a → IsSending x.cast v phase place a
  sending phase place a S = record { component = S.component; below = S.below; there = S.there; handle = S.handle; named = S.named; is = S.is }

  state_told : (phase : ℕ) → IsStateTold x.cast w phase → IsStateTold x.cast v phase
  state_told zero T = T
  state_told (suc n) T = T

  done_by : (k : Cursor) (o : Option ℕ) → IsDoneBy x.cast k w o → IsDoneBy x.cast k v o
  done_by k None D = state_told k.phase D
  done_by k (Some l) D = D

  done : (k : Cursor) → IsDone x.cast k w → IsDone x.cast k v
  done k D = record { all_sent = D.all_sent; told = done_by k k.changing D.told }

  change_act : (l n : ℕ) (a : Act) → IsChangeAct x w l n a → IsChangeAct x v l n a
  change_act l zero a A = A
  change_act l (suc zero) a A = A
  change_act l (suc (suc zero)) a A = A
  change_act l (suc (suc (suc zero))) a A = A
  change_act l (suc (suc (suc (suc zero)))) a A = A
  change_act l (suc (suc (suc (suc (suc zero))))) a A = A
  change_act l (suc (suc (suc (suc (suc (suc zero)))))) a A = A
  change_act l (suc (suc (suc (suc (suc (suc (suc zero))))))) a A = A
  change_act l (suc (suc (suc (suc (suc (suc (suc (suc n)))))))) a A = absurd A

  pub asked_so : (k : Cursor) (a : Act) (j : Cursor) → IsAsked x k w a j → IsAsked x k v a j
  asked_so k a j A = elim A [
    | inl G ↦ inl (record { begun = G.begun; sends = sending k.phase k.sent a G.sends; after = G.after })
    | inr B ↦ elim B [
      | inl G ↦ inr (inl (record { more = G.more; done = done k G.done; changed = G.changed; ends = G.ends; sends = sending (k.phase + 1) 0 a G.sends; after = G.after }))
      | inr E ↦ elim E [
        | inl G ↦ inr (inr (inl (record { phase = G.phase; done = done k G.done; link = G.link; below = G.below; late = G.late; unchanged = G.unchanged; announced = G.announced; its_act = change_act G.link 0 a G.its_act; after = G.after })))
        | inr G ↦ inr (inr (inr (record { link = G.link; its = G.its; more = G.more; disabled = G.disabled; its_act = change_act G.link (k.made G.link) a G.its_act; after = G.after })))
      ]
    ]
  ]

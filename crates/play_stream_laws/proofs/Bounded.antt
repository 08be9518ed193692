-- A network in which each number beyond the components is a source is, within them, as it was.
use Rattle.std.proofs.Common.{◌≡◌, inl, inr, ℕ, ◌<◌, Bool, ◌||◌, sym, ◌∙◌, ap}
use Rattle.std.proofs.lemmas.Bool.{lt-leb}
use Rattle.play_model.specs.Network.{Network, IsNetwork, IsInput, IsOutput, Flow}
use Rattle.play_model.specs.Account.{IsKept, IsSound}
use Rattle.play_model.specs.Moves.{Can, IsOpen, Move}
use Rattle.play_stream_laws.specs.Contents.{bounded}

module _ (net : Network) where
  abbrev big : Network
  big = bounded net

  pub source_below : (c : ℕ) → c < net.components → big.is_source c ≡ net.is_source c
  source_below c l = ap (λ (b : Bool). b || net.is_source c) (lt-leb net.components c l)

  input_in : (c l : ℕ) → IsInput net c l → IsInput big c l
  input_in c l I = record { below = I.below; taken_by = I.taken_by }

  pub input_out : (c l : ℕ) → IsInput big c l → IsInput net c l
  input_out c l I = record { below = I.below; taken_by = I.taken_by }

  output_out : (c l : ℕ) → IsOutput big c l → IsOutput net c l
  output_out c l O = record { below = O.below; given_by = O.given_by }

  pub network_bounded : IsNetwork net → IsNetwork big
  network_bounded N = record {
    order = N.order;
    inside = N.inside;
    count = N.count;
    fits = N.fits;
    unfed = λ l b. source_below (net.taker l) (N.inside l b) ∙ N.unfed l b;
    frames = N.frames;
    longest = λ c l h. let r = N.longest c l (sym (source_below c l) ∙ h) in (r.0, input_in c r.0 r.1, r.2);
  }

  kept_bounded : (s : Flow) (c : ℕ) → c < net.components → IsKept net s c → IsKept big s c
  kept_bounded s c l K =
      let e = source_below c l in
      record {
        source = λ h. K.source (sym e ∙ h);
        over = λ h o k I. K.over (sym e ∙ h) o k (input_out c k I);
        going = λ h o. let r = K.going (sym e ∙ h) o in (r.0, input_in c r.0 r.1, r.2);
        longest = λ h. let r = K.longest (sym e ∙ h) in (r.0, input_in c r.0 r.1, r.2);
      }

  pub sound_bounded : (s : Flow) → IsSound net s → IsSound big s
  sound_bounded s S = record { links = S.links; components = λ c l. kept_bounded s c l (S.components c l) }

  open_out : (s : Flow) (c l : ℕ) → IsOpen big s c l → IsOpen net s c l
  open_out s c l O = record { input = input_out c l O.input; open_ = O.open_ }

  open_in : (s : Flow) (c l : ℕ) → IsOpen net s c l → IsOpen big s c l
  open_in s c l O = record { input = input_in c l O.input; open_ = O.open_ }

  pub step_bounded : (s : Flow) (c n : ℕ) (last : Bool) → Can net s (Move.Step c n last) → Can big s (Move.Step c n last)
  step_bounded s c n last (C, N, L) =
      let b = C.inside in
      let e = source_below c b in (
        record { inside = b; going = C.going; inputs = λ l O. C.inputs l (open_out s c l O); outputs = λ l O. C.outputs l (output_out c l O) },
        record {
          inputs = λ l O. N.inputs l (open_out s c l O);
          outputs = λ l O. N.outputs l (output_out c l O);
          source = λ h. N.source (sym e ∙ h);
          other = λ h. elim (N.other (sym e ∙ h)) [
            | inl r ↦ let t = r.1 in inl (r.0, (t.0, open_in s c t.0 t.1, t.2))
            | inr r ↦ inr (r.0, λ l O. r.1 l (open_out s c l O))
          ];
        },
        record {
          source = λ h. L.source (sym e ∙ h);
          all = λ h o l I. L.all (sym e ∙ h) o l (input_out c l I);
          some = λ h o. let r = L.some (sym e ∙ h) o in (r.0, input_in c r.0 r.1, r.2);
        },
      )

-- What holds of each message on its way, by where it goes and what it says.
use Rattle.std.proofs.Common.{ℕ, List, [], ◌∷◌}
use Rattle.dash_msg.specs.Classes.{class_of}
use Rattle.dash_msg.specs.declared.msg.Msg.{Msg}
use Rattle.dash_msg.specs.declared.parcel.Sent.{Sent}
use Rattle.dash_model.specs.Net.{Packet, send}
use Rattle.dash_model.specs.LineFacts.{IsOnItsWay}
use Rattle.dash_model.specs.Machine.{less}
use Rattle.dash_model.proofs.OnNet.{AllOf, AllSent, all-tail, all-send, all-member}

-- of each on its way, and of each that is sent
abbrev pub Each : (ℕ → Msg → Type 0) → List Packet → Type 0
Each P = AllOf (λ q. P q.dst q.msg)

abbrev pub EachSent : (ℕ → Msg → Type 0) → List Sent → Type 0
EachSent P = AllSent (λ s. P s.to.0 s.msg)

module _ (P : ℕ → Msg → Type 0) where
  pub less_each : (ts net : List Packet) → Each P net → Each P (less ts net)
  less_each [] net h = h
  less_each (q ∷ qs) net h = all-tail (λ p. P p.dst p.msg) q.src q.dst (class_of q.msg) net h

  pub send_each : (t a : ℕ) (net : List Packet) (ss : List Sent) → Each P net → EachSent P ss → Each P (send net t a ss)
  send_each t a net ss h k = all-send (λ p. P p.dst p.msg) t a net ss h k

  pub each_member : (q : Packet) (net : List Packet) → IsOnItsWay q net → Each P net → P q.dst q.msg
  each_member q net i h = all-member (λ p. P p.dst p.msg) q net i h

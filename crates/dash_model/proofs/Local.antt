-- One step more at the end of a local run.
use Rattle.std.proofs.Common.{◌≡◌, ℕ, List, [], ◌∷◌, ◌++◌, refl, sym, ap, ◌∙◌, append-nil, append_assoc}
use Rattle.dash_model.specs.Config.{Config}
use Rattle.dash_model.specs.Part.{Part}
use Rattle.dash_model.specs.Machine.{Step, Steps, part_after, sends}
use Rattle.dash_model.specs.LocalRun.{IsLocalRun, part_at, sent_in, packets_taken, received_in}
use Rattle.dash_model.specs.MachineLaws.{Grows}

pub local_more : (w : Config) (c : ℕ) (p : Part) (gs : List Step) (g : Step) → IsLocalRun w c p gs → Steps w c g (part_at w c p gs)
    → IsLocalRun w c p (gs ++ (g ∷ []))
local_more w c p [] g r s = (s, tt)
local_more w c p (x ∷ xs) g r s = (r.0, local_more w c (part_after w c x p) xs g r.1 s)

pub part_more : (w : Config) (c : ℕ) (p : Part) (gs : List Step) (g : Step) → part_at w c p (gs ++ (g ∷ [])) ≡ part_after w c g (part_at w c p gs)
part_more w c p [] g = refl
part_more w c p (x ∷ xs) g = part_more w c (part_after w c x p) xs g

pub sent_more : (w : Config) (c : ℕ) (p : Part) (gs : List Step) (g : Step)
    → sent_in w c p (gs ++ (g ∷ [])) ≡ sent_in w c p gs ++ sends w c g (part_at w c p gs)
unfolding sent_in
sent_more w c p [] g = append-nil (sends w c g p)
sent_more w c p (x ∷ xs) g =
    ap (λ t. sends w c x p ++ t) (sent_more w c (part_after w c x p) xs g)
    ∙ sym (append_assoc (sends w c x p) (sent_in w c (part_after w c x p) xs) (sends w c g (part_at w c p (x ∷ xs))))

pub received_more : (c : ℕ) (gs : List Step) (g : Step) → received_in c (gs ++ (g ∷ [])) ≡ received_in c gs ++ packets_taken c g
unfolding received_in
received_more c [] g = append-nil (packets_taken c g)
received_more c (x ∷ xs) g = ap (λ t. packets_taken c x ++ t) (received_more c xs g) ∙ sym (append_assoc (packets_taken c x) (received_in c xs) (packets_taken c g))

pub local_runs_grow : (w : Config) (c : ℕ) (p : Part) (gs : List Step) (g : Step) → IsLocalRun w c p gs → Steps w c g (part_at w c p gs)
    → Grows w c p gs g
local_runs_grow w c p gs g r s = record { run = local_more w c p gs g r s; part = part_more w c p gs g; sent = sent_more w c p gs g; received = received_more c gs g }

-- The accesses of a log are those of its records.
use Rattle.std.proofs.Common.{◌≡◌, List, [], ◌∷◌, ◌++◌, refl, sym, ◌∙◌, ap, map, append_assoc}
use Rattle.dash_event.specs.declared.access.Access.{Access}
use Rattle.dash_event.specs.declared.event.Event.{Event}
use Rattle.dash_event.specs.Records.{unseen, accesses_in, accesses_of, records_in, records_of}
use Rattle.dash_event.specs.declared.step_record.StepRecord.{StepRecord}
use Rattle.dash_event.specs.declared.event.Kind.{Kind}
use Rattle.dash_event.specs.declared.event.Kind.TheVariants as kind
use Rattle.flat_model.specs.FlatEnd as flat

-- what happened has the access of its record, but for what it was shown
accesses_in-records_in : (k : Kind) → map unseen (accesses_in k) ≡ flat.accesses_of (records_in k)
accesses_in-records_in (kind.Alu h pc) = refl
accesses_in-records_in (kind.Fence h pc) = refl
accesses_in-records_in (kind.Hint h pc slot) = refl
accesses_in-records_in (kind.Put h pc byte) = refl
accesses_in-records_in (kind.Stop h pc end) = refl
accesses_in-records_in (kind.Load a level) = refl
accesses_in-records_in (kind.Store a) = refl
accesses_in-records_in (kind.Rmw a line version) = refl
accesses_in-records_in (kind.ScFail a) = refl
accesses_in-records_in (kind.Grant a) = refl
accesses_in-records_in (kind.Free from a) = refl
accesses_in-records_in k = refl

accesses_of-append : (rs ss : List StepRecord) → flat.accesses_of (rs ++ ss) ≡ flat.accesses_of rs ++ flat.accesses_of ss
accesses_of-append [] ss = refl
accesses_of-append (r ∷ rs) ss =
    ap (λ xs. flat.access_of r ++ xs) (accesses_of-append rs ss) ∙ sym (append_assoc (flat.access_of r) (flat.accesses_of rs) (flat.accesses_of ss))

unseen-append : (xs ys : List Access) → map unseen (xs ++ ys) ≡ map unseen xs ++ map unseen ys
unseen-append [] ys = refl
unseen-append (x ∷ xs) ys = ap (λ zs. unseen x ∷ zs) (unseen-append xs ys)

pub accesses_of-records_of : (log : List Event) → map unseen (accesses_of log) ≡ flat.accesses_of (records_of log)
accesses_of-records_of [] = refl
accesses_of-records_of (e ∷ log) =
    unseen-append (accesses_in e.kind) (accesses_of log)
    ∙ ap (λ xs. xs ++ map unseen (accesses_of log)) (accesses_in-records_in e.kind)
    ∙ ap (λ xs. flat.accesses_of (records_in e.kind) ++ xs) (accesses_of-records_of log)
    ∙ sym (accesses_of-append (records_in e.kind) (records_of log))

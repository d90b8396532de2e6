-- What an access is shown of a line was committed before, and it reads the words of that version.
use Rattle.std.proofs.Common.{Bool, List, None, Option, Some, [], ap, arith, false, length, map, refl, subst, sym, true, unwrap_or, ℕ, ◌++◌, ◌<◌, ◌∙◌, ◌∷◌, ◌≡◌, ◌≤◌}
use Rattle.dash_base.specs.Places.{line_of}
use Rattle.dash_base.specs.declared.id.WordAddr.{WordAddr}
use Rattle.dash_base.specs.declared.instr.Labels.{Labels}
use Rattle.dash_base.specs.declared.line.Line.{Line}
use Rattle.dash_base.specs.declared.need.Need.TheVariants as needed
use Rattle.dash_base.specs.declared.need.Need.{Need}
use Rattle.dash_base.specs.declared.ops.AmoOp.TheVariants.{Sc}
use Rattle.dash_base.specs.declared.ops.AmoOp.{AmoOp}
use Rattle.dash_event.specs.Effects.{reply}
use Rattle.dash_event.specs.Offered.{offered, bytes_under}
use Rattle.dash_event.specs.Records.{unseen, accesses_in}
use Rattle.dash_event.specs.declared.access.Access.{Access}
use Rattle.dash_event.specs.declared.access.Seen.TheVariants as seen
use Rattle.dash_event.specs.declared.event.Event.{Event}
use Rattle.dash_event.specs.declared.event.Kind.TheVariants as kind
use Rattle.dash_event.specs.declared.event.Kind.{Kind}
use Rattle.dash_model.proofs.Earlier.{guard_of}
use Rattle.dash_model.proofs.Everywhere.{CopyHas, NotNewer}
use Rattle.dash_model.proofs.Happened.{Happened, happened, before_is}
use Rattle.dash_model.proofs.Numbered.{line_below}
use Rattle.dash_model.proofs.Reached.{each_reached}
use Rattle.dash_model.proofs.VersionedContents.{IsWritten, all_written}
use Rattle.dash_model.specs.Cell.{Copy, Held, NoCopy}
use Rattle.dash_model.specs.Config.{Config, cluster_of, line_at, line_id, lines}
use Rattle.dash_model.specs.Guard.{Guard}
use Rattle.dash_model.specs.HartGuards.{LoadsBy, Retires, RmwFits, number_of}
use Rattle.dash_model.specs.HartRows.{HartEffect}
use Rattle.dash_model.specs.LineContent.{word_at}
use Rattle.dash_model.specs.Log.{IsShown, commits_before, commits_of}
use Rattle.dash_model.specs.Machine.{IsRun, event_of}
use Rattle.dash_model.specs.Part.{Part}
use Rattle.dash_model.specs.Words.{held_by, in_m, content, word_in}
use Rattle.hart_core.proofs.LawsOffered.{needs_of, proper}
use Rattle.hart_core.specs.Access.{IsProper, IsInMemory}
use Rattle.write_buffer.specs.declared.entry.Look.TheVariants.{None as NoStore, Hit, Wait}
use Rattle.write_buffer.specs.declared.entry.Look.{Look}

-- the cluster has a copy
pub record HasCopy (c : Copy) : Type 0 where
  pub holders : List ℕ
  pub owner : Option ℕ
  pub line : Line
  pub is : c ≡ Held holders owner line

-- the access is shown this version of its word's line in its cluster's copy, and reads a word of memory there
pub record Shows (w : Config) (c : ℕ) (a : Access) (v : ℕ) (p : Part) : Type 0 where
  pub mine : cluster_of w a.hart.0 ≡ c
  pub inside : IsInMemory w.top a.word.0 4
  pub copy : HasCopy (p.cells (line_at w a.word.0)).copy
  pub version : copy.line.version ≡ v
  pub reads : (value : ℕ) → a.read ≡ Some value → value ≡ bytes_under a.mask (word_in w a.word.0 copy.line)

holder_has : (h : ℕ) (c : Copy) → held_by h c ≡ true → HasCopy c
holder_has h (Held hs o d) e = record { holders = hs; owner = o; line = d; is = refl }
holder_has h NoCopy e = absurd (cc)

owner_has : (h : ℕ) (c : Copy) → in_m h c ≡ true → HasCopy c
owner_has h (Held hs o d) e = record { holders = hs; owner = o; line = d; is = refl }
owner_has h NoCopy e = absurd (cc)

-- what the access was shown and read is of a copy
shows_by : (w : Config) (c v : ℕ) (a : Access) (p : Part) (copy : HasCopy (p.cells (line_at w a.word.0)).copy) → cluster_of w a.hart.0 ≡ c → IsInMemory w.top a.word.0 4 → a.seen ≡ seen.Line (content (p.cells (line_at w a.word.0)).copy).version → a.seen ≡ seen.Line v → ((value : ℕ) → a.read ≡ Some value → value ≡ bytes_under a.mask (word_in w a.word.0 (content (p.cells (line_at w a.word.0)).copy))) → Shows w c a v p
shows_by w c v a p copy mine inside saw seen reads =
    let same : content (p.cells (line_at w a.word.0)).copy ≡ copy.line = ap content copy.is in
    let one : (content (p.cells (line_at w a.word.0)).copy).version ≡ v = cc in
    record { mine = mine; inside = inside; copy = copy; version = ap (λ (d : Line). d.version) (sym same) ∙ one; reads = λ value is. reads value is ∙ ap (λ d. bytes_under a.mask (word_in w a.word.0 d)) same }

load_reads : (h number : ℕ) (need : Need) (a : Access) (word : WordAddr) (old : ℕ) (labels : Labels) (reserve : Bool) → need ≡ needed.Load word a.mask labels reserve → Some (unseen a) ≡ offered h number need old false → (value : ℕ) → a.read ≡ Some value → value ≡ bytes_under a.mask old
load_reads h number need a word old labels reserve is made value e =
    let now : Some (unseen a) ≡ offered h number (needed.Load word a.mask labels reserve) old false = made ∙ ap (λ z. offered h number z old false) is in
    let same : a.read ≡ Some (bytes_under a.mask old) = ap (λ z. (unwrap_or z (unseen a)).read) now in
    cc

rmw_reads : (h number : ℕ) (a : Access) (word : WordAddr) (op : AmoOp) (operand old : ℕ) (labels : Labels) → Some (unseen a) ≡ offered h number (needed.Rmw word op operand labels) old true → (value : ℕ) → a.read ≡ Some value → value ≡ bytes_under a.mask old
rmw_reads h number a word Sc operand old labels made value e =
    let same : a.read ≡ None = ap (λ z. (unwrap_or z (unseen a)).read) made in
    absurd (cc)
rmw_reads h number a word op operand old labels made value e =
    let mask : a.mask ≡ 15 = ap (λ z. (unwrap_or z (unseen a)).mask) made in
    let same : a.read ≡ Some (bytes_under 15 old) = ap (λ z. (unwrap_or z (unseen a)).read) made in
    let is : value ≡ bytes_under 15 old = cc in
    is ∙ ap (λ z. bytes_under z old) (sym mask)

load_shows : (w : Config) (c v level : ℕ) (a : Access) (labels : Labels) (reserve : Bool) (d : HartEffect) (p : Part) (look : Look) → Retires w c a.hart.0 (needed.Load a.word a.mask labels reserve) (reply a.read a.written) d p → LoadsBy w look a level reserve d p → a.seen ≡ seen.Line v → Shows w c a v p
load_shows w c v level a labels reserve d p NoStore next f saw =
    let inside : IsProper w.top d.need = proper w.image w.top (p.harts a.hart.0).core d.need (needs_of w.image w.top (p.harts a.hart.0).core d.next d.need (reply a.read a.written) next.does) in
    shows_by w c v a p (holder_has a.hart.0 (p.cells (line_at w a.word.0)).copy f.holder) next.mine (subst (IsProper w.top) next.need_is inside) f.access.seen_is saw (load_reads a.hart.0 (number_of a.hart.0 p) d.need a a.word (word_in w a.word.0 (content (p.cells (line_at w a.word.0)).copy)) labels reserve next.need_is f.access.made)
load_shows w c v level a labels reserve d p (Hit value number) next f saw = absurd (let e = f.access.seen_is in cc)
load_shows w c v level a labels reserve d p Wait next f saw = absurd f

rmw_shows : (w : Config) (c v n l : ℕ) (a : Access) (d : HartEffect) (p : Part) → RmwFits w c a l n d p → a.seen ≡ seen.Line v → Shows w c a v p
rmw_shows w c v n l a d p f saw =
    let old = word_in w a.word.0 (content (p.cells l).copy) in
    let inside : IsProper w.top d.need = proper w.image w.top (p.harts a.hart.0).core d.need (needs_of w.image w.top (p.harts a.hart.0).core d.next d.need (reply a.read a.written) f.next.does) in
    let reads = rmw_reads a.hart.0 (number_of a.hart.0 p) a a.word f.op f.operand old f.labels (f.access.made ∙ ap (λ z. offered a.hart.0 (number_of a.hart.0 p) z old true) f.next.need_is) in
    let here = sym f.line in
    shows_by w c v a p (owner_has a.hart.0 (p.cells (line_at w a.word.0)).copy (subst (λ z. in_m a.hart.0 (p.cells z).copy ≡ true) here f.owner)) f.next.mine (subst (IsProper w.top) f.next.need_is inside) (f.access.seen_is ∙ ap (λ z. seen.Line (content (p.cells z).copy).version) here) saw
    (λ value is. reads value is ∙ ap (λ z. bytes_under a.mask (word_in w a.word.0 (content (p.cells z).copy))) here)

one_access : (a b : Access) → b ∷ [] ≡ a ∷ [] → b ≡ a
one_access a b e = cc

guard_shows : (w : Config) (c v : ℕ) (e : Kind) (d : HartEffect) (p : Part) (a : Access) → Guard w c e d p → accesses_in e ≡ a ∷ [] → a.seen ≡ seen.Line v → Shows w c a v p
unfolding Guard
guard_shows w c v (kind.Load b level) d p a g is saw =
    let s = one_access a b is in
    subst (λ z. Shows w c z v p) s (load_shows w c v level b g.labels g.reserve d p _ g.next g.from (ap (λ z. z.seen) s ∙ saw))
guard_shows w c v (kind.Rmw b l n) d p a g is saw =
    let s = one_access a b is in
    subst (λ z. Shows w c z v p) s (rmw_shows w c v n l.0 b d p g (ap (λ z. z.seen) s ∙ saw))
guard_shows w c v (kind.Store b) d p a g is saw = absurd (let s = one_access a b is in let e = g.access.seen_is in cc)
guard_shows w c v (kind.ScFail b) d p a g is saw = absurd (let s = one_access a b is in let e = g.access.seen_is in cc)
guard_shows w c v (kind.Grant b) d p a g is saw = absurd (let s = one_access a b is in let e = g.access.seen_is in cc)
guard_shows w c v (kind.Free f b) d p a g is saw = absurd (let s = one_access a b is in let e = g.access.seen_is in cc)
guard_shows w c v _ d p a g is saw = absurd (cc)

-- where the access of a position is shown a version
pub record ShownAt (w : Config) (log : List Event) (i : ℕ) (a : Access) (v : ℕ) : Type 0 where
  pub kind : Kind
  pub at : Happened w log i kind
  pub shows : Shows w at.step.event.cluster.0 a v (at.state.parts at.step.event.cluster.0)

pub shown_at : (w : Config) (log : List Event) (i : ℕ) (a : Access) (v : ℕ) → IsRun w log → IsShown log i a v → ShownAt w log i a v
shown_at w log i a v run s =
    let h = happened w log i s.event.kind run s.event.at in
    let c = h.step.event.cluster.0 in
    record { kind = s.event.kind; at = h; shows = guard_shows w c v s.event.kind h.step.done (h.state.parts c) a (guard_of w log i s.event.kind h) s.event.is s.seen }

-- its line is one of memory
pub shown_low : (w : Config) (c v : ℕ) (a : Access) (p : Part) → Shows w c a v p → line_at w a.word.0 < lines w
shown_low w c v a p s = line_below w a.word.0 (line_at w a.word.0) s.inside refl

pub shown_is_committed : (w : Config) (log : List Event) → IsRun w log → (i : ℕ) (a : Access) (version : ℕ) → IsShown log i a version → version ≤ commits_before log i (line_of w.top a.word)
shown_is_committed w log run i a v shown =
    let s = shown_at w log i a v run shown in
    let h = s.at in
    let c = h.step.event.cluster.0 in
    let l = line_at w a.word.0 in
    let now = each_reached w h.before h.state l (shown_low w c v a (h.state.parts c) s.shows) h.reached in
    let less : s.shows.copy.line.version ≤ now.content.version = subst (CopyHas (NotNewer now.content)) s.shows.copy.is (now.holds.newest.copy c) in
    let count : now.content.version ≡ commits_before log i (line_id l) = now.told.version ∙ ap (λ es. length (commits_of es (line_id l))) (before_is w log i s.kind h) in
    let is = s.shows.version in
    omega arith

pub reads_shown : (w : Config) (log : List Event) → IsRun w log → (i : ℕ) (a : Access) (version value : ℕ) → IsShown log i a version → a.read ≡ Some value → value ≡ bytes_under a.mask (word_at w.image log (line_of w.top a.word) version a.word.0)
reads_shown w log run i a v value shown read =
    let s = shown_at w log i a v run shown in
    let h = s.at in
    let c = h.step.event.cluster.0 in
    let l = line_at w a.word.0 in
    let all = all_written w h.before h.state l (shown_low w c v a (h.state.parts c) s.shows) h.reached (h.step.event ∷ map event_of h.follow) in
    let here : IsWritten w log l s.shows.copy.line = subst (λ es. IsWritten w es l s.shows.copy.line) (sym h.whole) (subst (CopyHas (IsWritten w (h.before ++ (h.step.event ∷ map event_of h.follow)) l)) s.shows.copy.is (all.copy c)) in
    s.shows.reads value read ∙ ap (bytes_under a.mask) (here a.word.0 s.shows.inside refl ∙ ap (λ n. word_at w.image log (line_id l) n a.word.0) s.shows.version)

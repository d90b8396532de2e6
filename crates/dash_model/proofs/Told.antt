-- A content that the log tells: what the commits of a line, over its opening words, make of it.
use Rattle.std.proofs.Common.{◌≡◌, ℕ, zero, suc, ◌+◌, ◌*◌, ◌≤◌, ◌<◌, ◌==◌, Bool, true, false, cond, nat_lt, Some, List, [], ◌∷◌, ◌++◌, fold, length, if◌then◌else◌, slice_index_or, unwrap_or, append-nil, refl, sym, ap, ap₂, ◌∙◌, subst, arith}
use Rattle.std.proofs.lemmas.Bool.Decides.{nat_tests}
use Rattle.std.proofs.lemmas.Grind.{flat_map-append, fold-append}
use Rattle.std.proofs.Math.Seq.{take-length}
use Rattle.std.proofs.lemmas.List.{append_assoc}
use Rattle.dash_base.specs.declared.id.HartId.{HartId}
use Rattle.dash_base.specs.declared.id.LineId.{LineId}
use Rattle.dash_base.specs.declared.id.WordAddr.{WordAddr}
use Rattle.dash_base.specs.declared.instr.Labels.{Labels}
use Rattle.dash_base.specs.declared.line.Line.{Line}
use Rattle.dash_base.specs.declared.ops.AmoOp.{AmoOp}
use Rattle.dash_base.specs.declared.ops.AmoOp.TheVariants.{Sc}
use Rattle.elf_load.specs.Image.{opening_word}
use Rattle.dash_event.specs.Records.{unseen}
use Rattle.dash_event.specs.declared.access.Access.{Access}
use Rattle.dash_event.specs.declared.event.Event.{Event}
use Rattle.dash_event.specs.declared.event.Kind.{Kind}
use Rattle.dash_event.specs.declared.event.Kind.TheVariants as kind
use Rattle.dash_event.specs.declared.step_record.StepRecord.TheVariants as step
use Rattle.hart_core.specs.Access.{IsProper, IsInMemory}
use Rattle.dash_base.specs.declared.need.Need.TheVariants as needed
use Rattle.hart_core.proofs.LawsOffered.{proper, needs_of}
use Rattle.dash_event.specs.Offered.{offered}
use Rattle.dash_event.specs.Effects.{is_of_memory, reply, word_after}
use Rattle.dash_model.specs.Maps.{raised, most}
use Rattle.dash_model.specs.Config.{Config, line_id, cluster_of, line_at, place_of, opening_line}
use Rattle.dash_model.specs.Part.{Part}
use Rattle.dash_model.specs.Words.{in_m, content, word_in, written_in}
use Rattle.dash_model.specs.HartRows.{HartEffect}
use Rattle.dash_model.specs.HartGuards.{number_of}
use Rattle.dash_model.specs.Guard.{Guard}
use Rattle.dash_model.specs.Log.{commit_in, commits_of}
use Rattle.dash_model.specs.History.{version_of}
use Rattle.dash_model.specs.LineContent.{store_of, committed, committed_over}
use Rattle.dash_model.specs.LineFacts.{IsCurrent}
use Rattle.dash_model.proofs.Written.{IsWrite, place_below, word_written, four_written}
use Rattle.dash_model.proofs.Stores.{AllStored, IsListed, store_kept}
use Rattle.dash_model.proofs.Views.{stored_over, content_by}

-- the word at an address by commits whose stores are found in this log
abbrev pub word_by : Config → List Event → List Kind → ℕ → ℕ
word_by w log ks address = fold (λ old k. committed_over address (committed log k) old) (opening_word w.image address) ks

-- the content of a line by a log, and by each that goes on from it
pub record Told (w : Config) (log : List Event) (l : ℕ) (d : Line) : Type 0 where
  pub four : length d.words ≡ 4
  pub version : d.version ≡ version_of log l
  pub words : (address : ℕ) → IsInMemory w.top address 4 → line_at w address ≡ l → (more : List Event) → word_in w address d ≡ word_by w (log ++ more) (commits_of log (line_id l)) address

commits_more : (log : List Event) (e : Event) (k : LineId) → commits_of (log ++ e ∷ []) k ≡ commits_of log k ++ commit_in k e.kind
commits_more log e k = flat_map-append (λ e. commit_in k e.kind) log (e ∷ []) ∙ ap (λ ks. commits_of log k ++ ks) (append-nil (commit_in k e.kind))

-- an event that does not commit the line
told_stays : (w : Config) (log : List Event) (e : Event) (l : ℕ) (d : Line) → commit_in (line_id l) e.kind ≡ [] → Told w log l d → Told w (log ++ e ∷ []) l d
told_stays w log e l d none k =
    let same : commits_of (log ++ e ∷ []) (line_id l) ≡ commits_of log (line_id l) = commits_more log e (line_id l) ∙ ap (λ ks. commits_of log (line_id l) ++ ks) none ∙ append-nil (commits_of log (line_id l)) in
    record {
      four = k.four;
      version = k.version ∙ sym (ap length same);
      words = λ address inside line more. k.words address inside line (e ∷ more) ∙ sym (ap₂ (λ es ks. word_by w es ks address) (append_assoc log (e ∷ []) more) same);
    }

length_more : (ks : List Kind) (k : Kind) → length (ks ++ k ∷ []) ≡ length ks + 1
length_more [] k = refl
length_more (x ∷ xs) k = let ih = length_more xs k in omega arith

-- below the greatest version, one more is just that
pub raised_below : (n : ℕ) → n < most → raised most n ≡ n + 1
raised_below n low = let test : nat_lt n most ≡ true = grind (arith, nat_tests) in ap (λ b. cond b (n + 1) n) test

-- an event that commits the line
told_writes : (w : Config) (log : List Event) (e : Event) (l : ℕ) (d : Line) (x : Kind) (a : Access) → version_of (log ++ e ∷ []) l ≤ most → commit_in (line_id l) e.kind ≡ x ∷ [] → ((more : List Event) → committed (log ++ e ∷ more) x ≡ Some a) → IsWrite w a → line_at w a.word.0 ≡ l → Told w log l d → Told w (log ++ e ∷ []) l (written_in w a.word.0 a.mask (unwrap_or a.written 0) d)
told_writes w log e l d x a low one found write here k =
    let ks = commits_of log (line_id l) in
    let next : commits_of (log ++ e ∷ []) (line_id l) ≡ ks ++ x ∷ [] = commits_more log e (line_id l) ∙ ap (λ xs. ks ++ xs) one in
    let count : version_of (log ++ e ∷ []) l ≡ length ks + 1 = ap length next ∙ length_more ks x in
    record {
      four = four_written w a.word.0 a.mask (unwrap_or a.written 0) d k.four;
      version = ap (raised most) k.version ∙ raised_below (length ks) (omega arith) ∙ sym count;
      words = λ address inside line more.
          word_written w a d address write k.four inside (line ∙ sym here)
          ∙ ap (word_after address (step.Access a)) (k.words address inside line (e ∷ more))
          ∙ sym (ap (λ o. committed_over address o (word_by w (log ++ e ∷ more) ks address)) (found more))
          ∙ sym (fold-append (λ old k. committed_over address (committed (log ++ e ∷ more) k) old) (opening_word w.image address) ks (x ∷ []))
          ∙ sym (ap₂ (λ es xs. word_by w es xs address) (append_assoc log (e ∷ []) more) next);
    }

-- an atomic operation that is done writes a word of memory
rmw_access : (h number : ℕ) (a : Access) (word : WordAddr) (op : AmoOp) (operand old : ℕ) (labels : Labels) → Some (unseen a) ≡ offered h number (needed.Rmw word op operand labels) old true → (is_of_memory a.op ≡ true) × (value : ℕ) × (a.written ≡ Some value)
rmw_access h number a word Sc operand old labels made =
    let same : unseen a ≡ unwrap_or (offered h number (needed.Rmw word Sc operand labels) old true) (unseen a) = ap (λ z. unwrap_or z (unseen a)) made in
    (ap (λ z. is_of_memory z.op) same, operand, ap (λ z. z.written) same)
rmw_access h number a word op operand old labels made =
    let same : unseen a ≡ unwrap_or (offered h number (needed.Rmw word op operand labels) old true) (unseen a) = ap (λ z. unwrap_or z (unseen a)) made in
    (ap (λ z. is_of_memory z.op) same, _, ap (λ z. z.written) same)

pub rmw_writes : (w : Config) (c : ℕ) (a : Access) (k : LineId) (v : ℕ) (d : HartEffect) (p : Part) → Guard w c (kind.Rmw a k v) d p → IsWrite w a
unfolding Guard
rmw_writes w c a k v d p can =
    let old = word_in w a.word.0 (content (p.cells k.0).copy) in
    let made = rmw_access a.hart.0 (number_of a.hart.0 p) a a.word can.op can.operand old can.labels (can.access.made ∙ ap (λ z. offered a.hart.0 (number_of a.hart.0 p) z old true) can.next.need_is) in
    let inside : IsProper w.top d.need = proper w.image w.top (p.harts a.hart.0).core d.need (needs_of w.image w.top (p.harts a.hart.0).core d.next d.need (reply a.read a.written) can.next.does) in
    record { of_memory = made.0; inside = subst (IsProper w.top) can.next.need_is inside; value = made.1; written = made.2 }

-- what is known of the part of the cluster of an event
pub record Knows (w : Config) (c : ℕ) (log : List Event) (l : ℕ) (d : Line) (p : Part) : Type 0 where
  pub listed : (h : ℕ) → cluster_of w h ≡ c → IsListed w log h (p.harts h)
  pub owned : (h : ℕ) → in_m h (p.cells l).copy ≡ true → content (p.cells l).copy ≡ d

commit_told : (w : Config) (c : ℕ) (log : List Event) (e : Event) (l : ℕ) (d : Line) (h : HartId) (n v : ℕ) (k : LineId) (x : HartEffect) (p : Part) (b : Bool) → (k.0 == l) ≡ b → e.kind ≡ kind.Commit h n k v → Guard w c (kind.Commit h n k v) x p → Knows w c log l d p → version_of (log ++ e ∷ []) l ≤ most → Told w log l d → Told w (log ++ e ∷ []) l (cond b (stored_over w (p.harts h.0).buffer (content (p.cells k.0).copy)) d)
unfolding Guard
commit_told w c log e l d h n v k x p false test is can knows low t = told_stays w log e l d (ap (commit_in (line_id l)) is ∙ ap (λ b. if b then kind.Commit h n k v ∷ [] else []) test) t
commit_told w c log e l d h n v k x p true test is can knows low t =
    let same : k.0 ≡ l = grind (arith, nat_tests) in
    let all = subst (AllStored w log h.0) can.buffer (knows.listed h.0 can.mine).waiting in
    let first = all.0 in
    let a = first.access in
    let current : content (p.cells k.0).copy ≡ d = ap (λ z. content (p.cells z).copy) same ∙ knows.owned h.0 (subst (λ z. in_m h.0 (p.cells z).copy ≡ true) same can.owner) in
    let found : store_of log h n ≡ Some a = ap (store_of log h) can.number_is ∙ first.found in
    let here : line_at w a.word.0 ≡ l = ap (λ z. line_at w z.word.0) first.entry ∙ can.line ∙ same in
    let makes : stored_over w (p.harts h.0).buffer (content (p.cells k.0).copy) ≡ written_in w a.word.0 a.mask (unwrap_or a.written 0) d = ap (λ b. stored_over w b (content (p.cells k.0).copy)) can.buffer ∙ sym (ap (λ z. written_in w z.word.0 z.mask z.value (content (p.cells k.0).copy)) first.entry) ∙ ap (written_in w a.word.0 a.mask (unwrap_or a.written 0)) current in
    subst (Told w (log ++ e ∷ []) l) (sym makes) (told_writes w log e l d (kind.Commit h n k v) a low (ap (commit_in (line_id l)) is ∙ ap (λ b. if b then kind.Commit h n k v ∷ [] else []) test) (λ more. store_kept log (e ∷ more) h.0 n a found) first.writes here t)

rmw_told : (w : Config) (c : ℕ) (log : List Event) (e : Event) (l : ℕ) (d : Line) (a : Access) (k : LineId) (v : ℕ) (x : HartEffect) (p : Part) (b : Bool) → (k.0 == l) ≡ b → e.kind ≡ kind.Rmw a k v → Guard w c (kind.Rmw a k v) x p → Knows w c log l d p → version_of (log ++ e ∷ []) l ≤ most → Told w log l d → Told w (log ++ e ∷ []) l (cond b (written_in w a.word.0 a.mask (unwrap_or a.written 0) (content (p.cells k.0).copy)) d)
unfolding Guard
rmw_told w c log e l d a k v x p false test is can knows low t = told_stays w log e l d (ap (commit_in (line_id l)) is ∙ ap (λ b. if b then kind.Rmw a k v ∷ [] else []) test) t
rmw_told w c log e l d a k v x p true test is can knows low t =
    let same : k.0 ≡ l = grind (arith, nat_tests) in
    let current : content (p.cells k.0).copy ≡ d = ap (λ z. content (p.cells z).copy) same ∙ knows.owned a.hart.0 (subst (λ z. in_m a.hart.0 (p.cells z).copy ≡ true) same can.owner) in
    subst (λ z. Told w (log ++ e ∷ []) l (written_in w a.word.0 a.mask (unwrap_or a.written 0) z)) (sym current) (told_writes w log e l d (kind.Rmw a k v) a low (ap (commit_in (line_id l)) is ∙ ap (λ b. if b then kind.Rmw a k v ∷ [] else []) test) (λ more. refl) (rmw_writes w c a k v x p can) (can.line ∙ same) t)

-- each event keeps that the log tells the content
pub told_step : (w : Config) (c : ℕ) (log : List Event) (e : Event) (l : ℕ) (d : Line) (x : HartEffect) (p : Part) (z : Kind) → e.kind ≡ z → Guard w c z x p → Knows w c log l d p → version_of (log ++ e ∷ []) l ≤ most → Told w log l d → Told w (log ++ e ∷ []) l (content_by w p l d z)
told_step w c log e l d x p (kind.Commit h n k v) is can knows low t = commit_told w c log e l d h n v k x p (k.0 == l) refl is can knows low t
told_step w c log e l d x p (kind.Rmw a k v) is can knows low t = rmw_told w c log e l d a k v x p (k.0 == l) refl is can knows low t
told_step w c log e l d x p _ is can knows low t = told_stays w log e l d (ap (commit_in (line_id l)) is) t

-- before a run
opened : (w : Config) (l address n : ℕ) → n < 4 → place_of w address ≡ n → address ≡ w.top.base + 16 * l + 4 * n → word_in w address (opening_line w l) ≡ opening_word w.image address
opened w l address zero b e f = ap (λ i. slice_index_or (opening_line w l).words i 0) e ∙ ap (opening_word w.image) (let g : w.top.base + 16 * l ≡ address = omega arith in g)
opened w l address (suc zero) b e f = ap (λ i. slice_index_or (opening_line w l).words i 0) e ∙ ap (opening_word w.image) (sym f)
opened w l address (suc (suc zero)) b e f = ap (λ i. slice_index_or (opening_line w l).words i 0) e ∙ ap (opening_word w.image) (sym f)
opened w l address (suc (suc (suc zero))) b e f = ap (λ i. slice_index_or (opening_line w l).words i 0) e ∙ ap (opening_word w.image) (sym f)
opened w l address (suc (suc (suc (suc n)))) b e f = absurd (omega arith)

address_is : (w : Config) (l address : ℕ) → IsInMemory w.top address 4 → line_at w address ≡ l → address ≡ w.top.base + 16 * l + 4 * place_of w address
address_is w l address i e =
    let pages = w.top.base_in_pages in
    let aligned = i.aligned in
    let above = i.above in
    omega arith

pub opening_told : (w : Config) (l : ℕ) → Told w [] l (opening_line w l)
opening_told w l = record {
  four = refl;
  version = refl;
  words = λ address inside line more. opened w l address (place_of w address) (place_below w address) refl (address_is w l address inside line);
}

-- what the log tells is the current content
pub current : (w : Config) (log : List Event) (l : ℕ) (d : Line) → Told w log l d → IsCurrent w log l d
current w log l d t = record {
  version = t.version;
  words = λ address inside line. t.words address inside line [] ∙ ap₂ (λ es ks. word_by w es ks address) (append-nil log) (sym (take-length (commits_of log (line_id l))));
}

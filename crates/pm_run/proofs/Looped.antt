-- How the code of a whole script goes from sentence to sentence.
use Rattle.std.proofs.Common.{◌≡◌, ◌⊎◌, inl, inr, ℕ, ◌+◌, ◌≤◌, true, false, List, [], ◌∷◌, ◌++◌, length, map, option_map, take, drop, get_or, ap₂, ◌-◌, refl, sym, ◌∙◌, ap, subst, arith, Option, Some, None}
use Rattle.std.specs.Prelude.{is_some, reverse, Ok, Err}
use Rattle.std.proofs.Math.Seq.{drop-length, drop-append_seam}
use Rattle.std.proofs.lemmas.List.{append-nil, length-map, length-reverse, take_all}
use Rattle.std.specs.List.{AllByRecursion}
use Rattle.pm_logic.specs.declared.limits.TheConstants.{MAX_NAMES, MAX_TABLE}
use Rattle.pm_logic.specs.declared.formula.Formula.{Formula}
use Rattle.pm_logic.specs.declared.formula.Pred.{Pred}
use Rattle.pm_check.specs.declared.checked.Statement.{Statement}
use Rattle.pm_check.specs.Derivation.{IsDerivation}
use Rattle.pm_check.specs.Table.{BeginsTable}
use Rattle.pm_write.specs.Derived.{statement_of, conclusions, AreWritable}
use Rattle.pm_proof.specs.Known.{Tables}
use Rattle.pm_rules.specs.declared.rules.Entail.{Entail}
use Rattle.pm_dtext.specs.Texts.{arities_of}
use Rattle.pm_goal.specs.declared.goal.Goal.{Goal}
use Rattle.pm_terms.specs.declared.fault.TextFault.{TextFault}
use Rattle.pm_terms.specs.declared.fault.TextFault.TheVariants.{Unexpected}
use Rattle.pm_terms.specs.Scope.{Names}
use Rattle.pm_cutter.specs.declared.span.Span.{Span}
use Rattle.pm_cutter.specs.declared.span.Ended.{Ended}
use Rattle.pm_cutter.specs.declared.span.Ended.TheVariants as ended
use Rattle.pm_cutter.specs.Cutting.{Part, clean, finished, parts, sentences_from, cut, rest_of, end_by, end_of}
use Rattle.pm_cutter.specs.CuttingLaws.{AreParts}
use Rattle.pm_cutter.proofs.Steady.{cutting_is_steady}
use Rattle.pm_cutter.specs.Fed.{newly_finished}
use Rattle.pm_cutter.specs.Spans.{part_of, parts_of, end_from}
use Rattle.pm_script.specs.declared.sentence.Sentence.{Sentence}
use Rattle.pm_script.specs.SentenceReading.{read_sentence}
use Rattle.pm_run.proofs.Sayable.{sayable}
use Rattle.pm_run.specs.declared.proof.Proof.{Proof}
use Rattle.pm_run.specs.declared.ran.Ran.{Ran}
use Rattle.pm_run.specs.declared.ran.Ran.TheVariants as ran
use Rattle.pm_goal.specs.declared.refusal.Row.TheVariants.{GoalsRemain}
use Rattle.pm_run.specs.declared.running.Running.{Running}
use Rattle.pm_run.specs.declared.running.Done.{Done}
use Rattle.pm_run.specs.declared.running.Done.TheVariants as done
use Rattle.pm_run.specs.declared.stop.Stop.{Stop}
use Rattle.pm_run.specs.declared.stop.Stop.TheVariants as stop
use Rattle.pm_run.specs.Runs.{OpenProof, State, start, scope, scope_by, Answer, moves, refuses, unbuilt, Does, Outcome, accepted, refused, unreadable, RunsFrom, does_not_read, is_unbuilt, is_refused, goes_on, is_cut_off, ends_inside, ends}
use Rattle.pm_run.specs.Keeping.{Keeps, IsLeft, KeepsProofs, tables, scope_of, IsKept, IsDone, DoesSentence}
use Rattle.pm_run.proofs.SoundGoals.{limits_of}
use Rattle.pm_run.proofs.Doings.{kept_open}
use Rattle.pm_run.proofs.Halts.{halts_unread, halts_refused, halts_unbuilt, halts_on}
use Rattle.pm_run.specs.Coming.{limit, ComesTo}
use Rattle.pm_run.specs.Looping.{outcome, stop_of, stopped, Goes, AtSpan, AtSpans, LeadsTo, IsShort, AreShort, ComesFrom, end_parts, end_rest, Ends, EndsWith, EndIsShort, IsCut}

-- ---- what a state that is kept tells

-- the names that the code and the state have in scope are the same
scope_same : (on : Tables) (known : List Entail) (p : Option Proof) (o : Option OpenProof) → KeepsProofs on known p o → scope_by (option_map (λ (q : Proof). record { name = q.name; statement = q.statement; goals = reverse q.goals }) p) ≡ scope_by o
scope_same on known None None k = refl
scope_same on known (Some p) (Some o) k = ap (λ (gs : List Goal). scope_by (Some (record o { goals = gs }))) k.goals_are
scope_same on known None (Some o) k = absurd k
scope_same on known (Some p) None k = absurd k

pub scope_is : (r : Running) (s : State) → Keeps r s → scope_of r ≡ scope s
scope_is r s k = scope_same (tables s) (conclusions r.proofs) r.proof s.proof k.proof_is

kept_closed : (r : Running) (s : State) → Keeps r s → is_some s.proof ≡ is_some r.proof
kept_closed r s k = sym (kept_open r s k)

pub table_kept : (r : Running) → IsKept r → BeginsTable (arities_of r.preds.list) r.preds.list
table_kept r k = subst (λ (qs : List Pred). BeginsTable (arities_of qs) qs) (sym k.kept.preds_are) k.kept.sound.table_begins

pub few_preds : (r : Running) → IsKept r → length r.preds.list ≤ MAX_TABLE
few_preds r k = let few = (table_kept r k).fit.0 in let l : length (arities_of r.preds.list) ≡ length r.preds.list = length-map r.preds.list (λ (q : Pred). q.arity) in omega (arith, few, l)

-- few names are in scope
few_by : (on : Tables) (known : List Entail) (p : Option Proof) (o : Option OpenProof) → KeepsProofs on known p o → length (scope_by o) ≤ 64
few_by on known None None k = omega arith
few_by on known (Some p) (Some o) k = go o.goals k.left
  where
    go : (gs : List Goal) → AllByRecursion (IsLeft on) gs → length (scope_by (Some (record o { goals = gs }))) ≤ 64
    go [] all = omega arith
    go (g ∷ gs) all = omega (arith, length-reverse g.vars, (limits_of g all.0.fit.within).vars)
few_by on known None (Some o) k = absurd k
few_by on known (Some p) None k = absurd k

pub few_names : (r : Running) → IsKept r → length (scope_of r) ≤ MAX_NAMES
few_names r k = omega (arith, ap length (scope_is r k.state k.kept), few_by (tables k.state) (conclusions r.proofs) r.proof k.state.proof k.kept.proof_is)

-- ---- a sentence

read_here : (r : Running) (s : State) (base : ℕ) (text : List ℕ) → Keeps r s → read_sentence base s.preds (scope s) text ≡ read_sentence base r.preds.list (scope_of r) text
read_here r s base text k = ap (λ (ns : Names). read_sentence base s.preds ns text) (sym (scope_is r s k)) ∙ ap (λ (qs : List Pred). read_sentence base qs (scope_of r) text) (sym k.preds_are)

pub unread_span : (old : Running) (n : ℕ) (span : Span) (f : TextFault) → read_sentence span.offset old.preds.list (scope_of old) span.text ≡ Err f → AtSpan old n span old (Some (stop.Unreadable f))
unread_span old n span f e = λ s k.
    let here = read_here old s span.offset span.text k ∙ e in
    record { state = s; kept = k; stops = λ size left more. does_not_read (part_of span) here; halts = λ size left more. halts_unread size left n s (part_of span) more f here }

stays : (old new : Running) (s : State) → Keeps old s → new ≡ old → Keeps new s
stays old new s k same = subst (λ (r : Running). Keeps r s) (sym same) k

answered : (n : ℕ) (s : State) (p : Part) (x : Sentence) (old new : Running) (d : Done) (a : Answer) → read_sentence p.offset s.preds (scope s) p.text ≡ Ok x → Keeps old s → Does s x a → IsDone old new a d → Goes n s (p ∷ []) new (n + 1) (stop_of n p d)
answered n s p x old new done.Moved (moves t) e k does h = record { state = t; kept = h.1; leads = λ size left more o run. goes_on p x t e does run; halts = λ size left more last by run. halts_on size left n s p more x t last by e does run }
answered n s p x old new done.Moved (refuses q) e k does h = absurd (cc h.0)
answered n s p x old new done.Moved unbuilt e k does h = absurd (cc h.0)
answered n s p x old new (done.Refused r) (moves t) e k does h = absurd (cc h.0)
answered n s p x old new (done.Refused r) (refuses q) e k does h =
    let same : q ≡ r = cc h.0 in
    let refuses_it : Does s x (refuses r) = subst (λ q. Does s x (refuses q)) same does in
    record { state = s; kept = stays old new s k h.1; stops = λ size left more. is_refused p x e refuses_it; halts = λ size left more. halts_refused size left n s p more x r e refuses_it }
answered n s p x old new (done.Refused r) unbuilt e k does h = absurd (cc h.0)
answered n s p x old new done.Unbuilt (moves t) e k does h = absurd (cc h.0)
answered n s p x old new done.Unbuilt (refuses q) e k does h = absurd (cc h.0)
answered n s p x old new done.Unbuilt unbuilt e k does h = record { state = s; kept = stays old new s k h.1; stops = λ size left more. is_unbuilt p x e does; halts = λ size left more. halts_unbuilt size left n s p more x e does }

pub done_span : (old : Running) (n : ℕ) (span : Span) (x : Sentence) (new : Running) (d : Done) → read_sentence span.offset old.preds.list (scope_of old) span.text ≡ Ok x → DoesSentence old x new d → AtSpan old n span new (stop_of n (part_of span) d)
done_span old n span x new d e does = λ s k.
    let here = read_here old s span.offset span.text k ∙ e in
    let doing = does s k (sayable s span.offset (scope s) span.text x here) in
    answered n s (part_of span) x old new d doing.answer here k doing.does doing.is_done

-- ---- sentences one after another

pub leads_on : (old : Running) (n : ℕ) (spans : List Span) (r : Running) (m : ℕ) (span : Span) (tail : List Span) (new : Running) → LeadsTo old n spans r m (span ∷ tail) → AtSpan r m span new None → LeadsTo old n spans new (m + 1) tail
leads_on old n spans r m span tail new before turn = λ s k.
    let a = before s k in
    let b = turn a.state a.kept in
    record { state = b.state; kept = b.kept; leads = λ size left more o h. a.leads size left more o (b.leads size left (parts_of tail ++ more) o h); halts = λ size left more last by h. a.halts size left more last by (b.halts size left (parts_of tail ++ more) last by h) }

-- the run stops at the next sentence
pub stops_on : (old : Running) (n : ℕ) (spans : List Span) (r : Running) (m : ℕ) (span : Span) (tail : List Span) (new : Running) (k : ℕ) (at : Stop) → LeadsTo old n spans r m (span ∷ tail) → AtSpan r m span new (Some at) → AtSpans old n spans new k (Some at)
stops_on old n spans r m span tail new k at before turn = λ s h.
    let a = before s h in
    let b = turn a.state a.kept in
    record { state = b.state; kept = b.kept; stops = λ size left more. a.leads size left more (outcome at) (b.stops size left (parts_of tail ++ more)); halts = λ size left more. a.halts size left more b.state (Some at) (b.halts size left (parts_of tail ++ more)) }

pub kept_behind : (r : Running) (n : ℕ) (span : Span) (new : Running) → IsKept r → AtSpan r n span new None → IsKept new
kept_behind r n span new k turn = let b = turn k.state k.kept in record { state = b.state; kept = b.kept }

pub first_of : (spans : List Span) (span : Span) → 1 ≤ length spans → span ≡ get_or spans 0 span → spans ≡ span ∷ take (length spans - 1) (drop 1 spans)
first_of [] span some is = absurd (omega (arith, some))
first_of (x ∷ xs) span some is = ap₂ (λ (y : Span) (ys : List Span). y ∷ ys) (sym is) (sym (take_all (length (x ∷ xs) - 1) xs (omega arith)))

pub turn_kept : (old r new : Running) (n m k : ℕ) (spans left tail : List Span) (span : Span) → left ≡ span ∷ tail → k ≡ m + 1 → IsKept r → AreShort left → LeadsTo old n spans r m left → AtSpan r m span new None → IsKept new × AreShort tail × LeadsTo old n spans new k tail
turn_kept old r new n m k spans left tail span is next kept short leads turn =
    let leads : LeadsTo old n spans r m (span ∷ tail) = subst (LeadsTo old n spans r m) is leads in
    (kept_behind r m span new kept turn, (subst AreShort is short).1, subst (λ (k : ℕ). LeadsTo old n spans new k tail) (sym next) (leads_on old n spans r m span tail new leads turn))

-- ---- ends

pub ends_open : (r : Running) (n size : ℕ) → is_some r.proof ≡ true → Ends r n size clean (ran.Refused n size (record { row = GoalsRemain; name = None }))
ends_open r n size e = λ s k. ends_inside refl (kept_closed r s k ∙ e)

-- what is kept of the proofs tells that they can be written down
pub kept_writable : (r : Running) → IsKept r → AreWritable r.preds r.proofs
kept_writable r k = k.kept.writable r.preds ([], k.kept.preds_are ∙ sym (append-nil k.state.preds))

pub ends_clean : (r : Running) (n size : ℕ) (text : List ℕ) → is_some r.proof ≡ false → IsDerivation text r.preds (map statement_of r.proofs) → Ends r n size clean (ran.Accepted text)
ends_clean r n size text e written = λ s k. record {
  preds = r.preds;
  lemmas = s.lemmas;
  runs = subst (λ (qs : List Pred). RunsFrom size None n s [] (accepted qs s.lemmas)) (sym k.preds_are) (ends refl (kept_closed r s k ∙ e));
  derivation = subst (IsDerivation text r.preds) k.states written;
}

pub ends_rest : (r : Running) (n size at : ℕ) → Ends r n size (end_from (ended.Rest at)) (ran.Unreadable (Unexpected at))
ends_rest r n size at = λ s k. is_cut_off at refl

comes_stopped : (size : ℕ) (left : Option ℕ) (n : ℕ) (s : State) (ps : List Part) (at : Stop) → RunsFrom size left n s ps (outcome at) → ComesFrom size left n s ps (stopped at)
comes_stopped size left n s ps (stop.Refused number offset refusal) h = h
comes_stopped size left n s ps (stop.Unreadable fault) h = h

comes_on : (size : ℕ) (left : Option ℕ) (m : ℕ) (t : State) (qs : List Part) (n : ℕ) (s : State) (ps : List Part) → ((o : Outcome) → RunsFrom size left m t qs o → RunsFrom size left n s ps o) → (result : Ran) → ComesFrom size left m t qs result → ComesFrom size left n s ps result
comes_on size left m t qs n s ps lead (ran.Accepted text) h = record { preds = h.preds; lemmas = h.lemmas; runs = lead (accepted h.preds.list h.lemmas) h.runs; derivation = h.derivation }
comes_on size left m t qs n s ps lead (ran.Refused number offset refusal) h = lead (refused number offset refusal) h
comes_on size left m t qs n s ps lead (ran.Unreadable fault) h = lead (unreadable fault) h

pub ends_stopped : (r : Running) (n size : ℕ) (span : Span) (new : Running) (at : Stop) → AtSpan r n span new (Some at) → EndsWith r n size span (stopped at)
ends_stopped r n size span new at h = λ s k. comes_stopped size None n s (part_of span ∷ []) at ((h s k).stops size None [])

pub ends_behind : (r : Running) (n size : ℕ) (span : Span) (new : Running) (result : Ran) → AtSpan r n span new None → Ends new (n + 1) size clean result → EndsWith r n size span result
ends_behind r n size span new result turn behind = λ s k.
    let b = turn s k in
    comes_on size None (n + 1) b.state [] n s (part_of span ∷ []) (λ o. b.leads size None [] o) result (behind b.state b.kept)

-- ---- scripts that are cut

pub finished_first : (bytes : List ℕ) → newly_finished [] bytes ≡ finished bytes
unfolding parts sentences_from
finished_first bytes = refl

abbrev Splits : List Part → List Part → Option ℕ → List Part → Type 0
Splits fs cs r ds = (cs ≡ fs ++ end_parts (end_by ds r)) × (r ≡ end_rest (end_by ds r))

splits_none : (fs : List Part) (r : Option ℕ) → Splits fs fs r []
splits_none fs None = (sym (append-nil fs), refl)
splits_none fs (Some at) = (sym (append-nil fs), refl)

splits : (fs cs : List Part) (r : Option ℕ) → (cs ≡ fs) ⊎ ((p : Part) × (cs ≡ fs ++ p ∷ [])) → ((p : Part) → cs ≡ fs ++ p ∷ [] → r ≡ None) → Splits fs cs r (drop (length fs) cs)
splits fs cs r (inl e) none = subst (λ (cs : List Part). Splits fs cs r (drop (length fs) cs)) (sym e) (subst (Splits fs fs r) (sym (drop-length fs)) (splits_none fs r))
splits fs cs r (inr x) none = subst (Splits fs cs r) (sym (ap (λ (cs : List Part). drop (length fs) cs) x.1 ∙ drop-append_seam fs (x.0 ∷ []))) (x.1, none x.0 x.1)

end_splits : (bytes : List ℕ) → Splits (finished bytes) (cut bytes) (rest_of bytes) (drop (length (finished bytes)) (cut bytes))
end_splits bytes = splits (finished bytes) (cut bytes) (rest_of bytes) (cutting_is_steady.ends bytes) (cutting_is_steady.nothing_left bytes)

pub cut_is : (bytes : List ℕ) (spans : List Span) (end : Ended) → IsCut bytes spans end → (cut bytes ≡ parts_of spans ++ end_parts (end_from end)) × (rest_of bytes ≡ end_rest (end_from end))
unfolding end_of
cut_is bytes spans end is =
    let h = end_splits bytes in
    (h.0 ∙ (ap (λ (ps : List Part). ps ++ end_parts (end_of bytes)) (sym is.spans_are) ∙ ap (λ e. parts_of spans ++ end_parts e) (sym is.end_is)), h.1 ∙ ap end_rest (sym is.end_is))

comes_to : (bytes : List ℕ) (result : Ran) → ComesFrom (length bytes) (rest_of bytes) 1 start (cut bytes) result → ComesTo bytes result
comes_to bytes (ran.Accepted text) h = record { preds = h.preds; lemmas = h.lemmas; runs = h.runs; derivation = h.derivation }
comes_to bytes (ran.Refused number offset refusal) h = h
comes_to bytes (ran.Unreadable fault) h = h

cut_comes : (bytes : List ℕ) (spans : List Span) (end : Ended) → IsCut bytes spans end → (result : Ran) → ComesFrom (length bytes) (end_rest (end_from end)) 1 start (parts_of spans ++ end_parts (end_from end)) result → ComesTo bytes result
cut_comes bytes spans end is result h =
    let whole = cut_is bytes spans end is in
    comes_to bytes result (subst (λ (left : Option ℕ). ComesFrom (length bytes) left 1 start (cut bytes) result) (sym whole.1) (subst (λ (ps : List Part). ComesFrom (length bytes) (end_rest (end_from end)) 1 start ps result) (sym whole.0) h))

pub run_stopped : (bytes : List ℕ) (spans : List Span) (end : Ended) (first new : Running) (m : ℕ) (at : Stop) → IsCut bytes spans end → Keeps first start → AtSpans first 1 spans new m (Some at) → ComesTo bytes (stopped at)
run_stopped bytes spans end first new m at is k went =
    cut_comes bytes spans end is (stopped at) (comes_stopped (length bytes) (end_rest (end_from end)) 1 start (parts_of spans ++ end_parts (end_from end)) at ((went start k).stops (length bytes) (end_rest (end_from end)) (end_parts (end_from end))))

pub run_ended : (bytes : List ℕ) (spans : List Span) (end : Ended) (first new : Running) (m : ℕ) (result : Ran) → IsCut bytes spans end → Keeps first start → AtSpans first 1 spans new m None → Ends new m (length bytes) (end_from end) result → ComesTo bytes result
run_ended bytes spans end first new m result is k went behind =
    let b = went start k in
    cut_comes bytes spans end is result (comes_on (length bytes) (end_rest (end_from end)) m b.state (end_parts (end_from end)) 1 start (parts_of spans ++ end_parts (end_from end)) (λ o. b.leads (length bytes) (end_rest (end_from end)) (end_parts (end_from end)) o) result (behind b.state b.kept))

pub run_kept : (spans : List Span) (first new : Running) (m : ℕ) → Keeps first start → AtSpans first 1 spans new m None → IsKept new
run_kept spans first new m k went = let b = went start k in record { state = b.state; kept = b.kept }

-- ---- spans are within the script

parts_within : (bytes : List ℕ) (from : ℕ) (ps : List Part) → AreParts bytes from ps → from ≤ length bytes
parts_within bytes from [] h = h
parts_within bytes from (p ∷ ps) h = let far = parts_within bytes (p.offset + length p.text) ps h.2 in omega (arith, h.0, far)

span_short : (bytes : List ℕ) (from : ℕ) (span : Span) (ps : List Part) → length bytes ≤ limit → AreParts bytes from (part_of span ∷ ps) → IsShort span
span_short bytes from span ps short h = let far = parts_within bytes (span.offset + length span.text) ps h.2 in (omega (arith, short, far), omega (arith, short, far))

parts_short : (bytes : List ℕ) (from : ℕ) (spans : List Span) (more : List Part) → length bytes ≤ limit → AreParts bytes from (parts_of spans ++ more) → AreShort spans × ((at : ℕ) × AreParts bytes at more)
parts_short bytes from [] more short h = (tt, (from, h))
parts_short bytes from (span ∷ spans) more short h =
    let behind = parts_short bytes (span.offset + length span.text) spans more short h.2 in
    ((span_short bytes from span (parts_of spans ++ more) short h, behind.0), behind.1)

end_short : (bytes : List ℕ) (from : ℕ) (end : Ended) → length bytes ≤ limit → AreParts bytes from (end_parts (end_from end)) → EndIsShort end
end_short bytes from ended.Clean short h = tt
end_short bytes from (ended.Last span) short h = span_short bytes from span [] short h
end_short bytes from (ended.Rest at) short h = tt

pub cut_short : (bytes : List ℕ) (spans : List Span) (end : Ended) → IsCut bytes spans end → length bytes ≤ limit → AreShort spans × EndIsShort end
cut_short bytes spans end is short =
    let stand = parts_short bytes 0 spans (end_parts (end_from end)) short (subst (AreParts bytes 0) (cut_is bytes spans end is).0 (cutting_is_steady.stand bytes)) in
    (stand.0, end_short bytes stand.1.0 end short stand.1.1)

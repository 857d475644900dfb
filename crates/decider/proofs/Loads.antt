-- What became of a file that was loaded, from what became of its rule. Assumes nothing.
use Rattle.std.proofs.Common.{◌≡◌, ℕ, ◌-◌, List, length, take, replicate, Ok, Err, Result, refl, ap, ◌∙◌, subst}
use Rattle.std.proofs.lemmas.List.{take_at}
use Rattle.calculus.specs.declared.entry.Entry.{Entry}
use Rattle.calculus.specs.declared.node.Node.{Node}
use Rattle.calculus.specs.Kinds.{blank}
use Rattle.calculus.specs.Forms.{empty}
use Rattle.calculus.specs.Meanings.{Meaning}
use Rattle.refusals.specs.declared.Refusal.{Refusal}
use Rattle.rule_file.specs.declared.load.Loaded.{Loaded}
use Rattle.rule_file.specs.Accepted.{LoadedRule}
use Rattle.rule_file.specs.Loading.{LoadCall}
use Rattle.decider.specs.declared.decision.Undecided.TheVariants.{Unloaded}
use Rattle.decider.specs.declared.memory.Memory.{Memory}
use Rattle.decider.specs.Deciding.{Decision, Judged, DecideCall, unloads, judges}

pub loaded_judged : (file : List ℕ) (memory : Memory) (m : Meaning) (fuel : ℕ) (loaded : Loaded) (nodes' : List Node) (types' : List Entry)
    (d : Decision) (front' : List Node) (r : Result Loaded Refusal) → r ≡ Ok loaded
    → LoadedRule file (length memory.nodes.now) (length memory.types.now) r nodes' types'
    → Judged (take loaded.nodes nodes') types' loaded.count memory.scratch.now memory.front.now memory.back.now m fuel d front'
    → DecideCall file memory m fuel d front'
loaded_judged file memory m fuel loaded nodes' types' d front' r made call judged =
    let (es, ns, rule, is, room, holds) =
    subst (λ (x : Result Loaded Refusal). LoadedRule file (length memory.nodes.now) (length memory.types.now) x nodes' types') made call in
    let n : loaded.nodes ≡ length ns = ap (λ (l : Loaded). l.nodes) holds.counts in
    let k : loaded.count ≡ length es = ap (λ (l : Loaded). l.count) holds.counts in
    let same : take loaded.nodes nodes' ≡ ns =
    ap (λ (i : ℕ). take i nodes') n ∙ ap (take (length ns)) holds.nodes_after
    ∙ take_at ns (replicate (length memory.nodes.now - length ns) blank) (length ns) refl in
    let entries : take (length es) types' ≡ es =
    ap (take (length es)) holds.types_after ∙ take_at es (replicate (length memory.types.now - length es) empty) (length es) refl in
    judges es ns types' rule is entries
    (subst (λ (c : ℕ). Judged ns types' c memory.scratch.now memory.front.now memory.back.now m fuel d front') k
    (subst (λ (l : List Node). Judged l types' loaded.count memory.scratch.now memory.front.now memory.back.now m fuel d front') same judged))

pub not_loaded : (file : List ℕ) (memory : Memory) (m : Meaning) (fuel : ℕ) (x : Refusal) (nodes' : List Node) (types' : List Entry)
    (r : Result Loaded Refusal) → r ≡ Err x → LoadCall file memory.nodes.now memory.types.now r nodes' types'
    → LoadedRule file (length memory.nodes.now) (length memory.types.now) r nodes' types'
    → DecideCall file memory m fuel (Err (Unloaded x)) memory.front.now
not_loaded file memory m fuel x nodes' types' r made call rule =
    unloads nodes' types' (subst (λ (y : Result Loaded Refusal). LoadCall file memory.nodes.now memory.types.now y nodes' types') made call)
    (subst (λ (y : Result Loaded Refusal). LoadedRule file (length memory.nodes.now) (length memory.types.now) y nodes' types') made rule)

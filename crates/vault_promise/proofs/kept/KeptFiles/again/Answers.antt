use Rattle.std.proofs.Common.{[], ◌∷◌, ◌++◌, inl, refl, true}
use Rattle.std.proofs.Math.Logic.{∥∥₁_map}
use Rattle.vault_promise.proofs.JoinedRuns.{agrees_with, stands_after}
use Rattle.vault_promise.proofs.Witnessing.{goes_from, leaves_closed}
use Rattle.vault_promise.proofs.kept.KeptFiles.again.Goals as goal
use Rattle.vault_promise.specs.Memory.{MayBeLeftIn, bytes_in}

pub returns-in-Some-clause-follows : goal.returns-in-Some-clause-follows
returns-in-Some-clause-follows g c =
    let image = bytes_in c.args.self.files in
    let leaves = leaves_closed image c.run_again-status.result.1 c.in-Some.store c.in-Some.is
    (c.files_of.ensures.clean refl) (MayBeLeftIn c.files_of.result) (c.files_of.ensures.left refl) in
    let (r, begins, moments, texts, call, is_run) = c.run_again-status.ensures image (λ turn now. true)
    (record { said = λ path text. true; looked = λ path look text. true })
    (record {
      tells = λ turn now told. refl;
      says = λ path text told. refl;
      looks = λ path look text told. refl;
    }) (λ job path asked named. refl) in
    let goes = goes_from (MayBeLeftIn c.args.self.files) (MayBeLeftIn c.files_of.result) image r begins
    (inl refl, inl refl) (λ next may. is_run next (leaves next may)) in (
      r,
      (
        begins,
        record {
          left = call.left;
          told = call.told;
          turns = call.turns;
          came = call.came;
          does = call.does;
          is = call.is;
          tells = call.tells;
          found = call.found;
          leaves = λ next may. call.leaves next (leaves next may);
        },
      ),
      (
        goes,
        agrees_with _ _ r (bytes_in c.files_of.result) c.answers_again.ensures goes (inl refl, inl refl),
      ),
    )

pub invariant_of-result : goal.invariant_of-result
invariant_of-result g c =
    let image = bytes_in c.args.self.files in
    let leaves = leaves_closed image c.run_again-status.result.1 c.in-Some.store c.in-Some.is
    (c.files_of.ensures.clean refl) (MayBeLeftIn c.files_of.result) (c.files_of.ensures.left refl) in
    let (r, begins, moments, texts, call, is_run) = c.run_again-status.ensures image (λ turn now. true)
    (record { said = λ path text. true; looked = λ path look text. true })
    (record {
      tells = λ turn now told. refl;
      says = λ path text told. refl;
      looks = λ path look text told. refl;
    }) (λ job path asked named. refl) in
    let goes = goes_from (MayBeLeftIn c.args.self.files) (MayBeLeftIn c.files_of.result) image r begins
    (inl refl, inl refl) (λ next may. is_run next (leaves next may)) in
    record { kept = ∥∥₁_map c.args.self.kept (λ (V, rs, have). (V, rs ++ r ∷ [], goes V rs have)) }

pub returns-in-Some-clause-stands : goal.returns-in-Some-clause-stands
returns-in-Some-clause-stands g c =
    stands_after (MayBeLeftIn c.files_of.result) c.answers_stand.ensures (invariant_of-result g c.before).kept

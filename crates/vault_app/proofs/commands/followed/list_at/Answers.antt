use Rattle.std.proofs.Common.{◌≡◌, true, subst}
use Rattle.vault_live.specs.Following.{is_whole}
use Rattle.vault_app.proofs.FollowedFiles.{followed_there}
use Rattle.vault_app.specs.World.{looked}
use Rattle.vault_app.proofs.commands.followed.list_at.Goals as goal

pub returns-in-Ok-file_of-clause-listed : goal.returns-in-Ok-file_of-clause-listed
returns-in-Ok-file_of-clause-listed g c =
    let text = c.in-Ok.text in
    let rows = c.in-Good.rows in
    let is = c.in-Ok-file_of.ensures.is in
    let whole : is_whole text.items ≡ true = cc (c.if-not-is_whole.ensures, c.as_slice.ensures.value) in
    followed_there g.L.Kind.names (looked (g.K.Timekeeper.tells c.args.time.now)
    (g.D.Desk.says c.args.desk.now)) c.args.path c.in-Some.path c.in-Ok-file_of.listed text rows c.in-Some.is
    is.0 is.1 c.in-Ok.ensures whole
    (subst (λ t. g.L.Kind.names t rows.items) c.as_slice-2.ensures.value c.in-Good.ensures.good)
    c.in-Ok-file_of.ensures.told.0 is.2

-- `serve`: the vault of a file served on a port.
use Rattle.std.specs.Prelude.{List, [], ◌∷◌, option_map, codes}
use Rattle.clap.specs.Words.{App, Row, new_app}
use Rattle.vault_words.specs.Rules.{number_option, text_option, text_rule, with_rules}
use Rattle.vault_words.specs.WordValues.{HasConnections, HasMaybeText, HasPort, HasText}
use Rattle.vault_words.specs.declared.commands.serve.ServeJob.{ServeJob}

-- serve [--connections N] [--port P] [--rights RIGHTS] [--merchants LIST] FILE
abbrev pub serve_app : App
serve_app = with_rules (new_app (codes "serve"))
    (number_option (codes "connections") ∷ number_option (codes "port") ∷ text_option (codes "rights")
    ∷ text_option (codes "merchants") ∷ text_rule (codes "FILE") ∷ [])

-- the values of serve ask for this job
abbrev pub AsksServe : List Row → ServeJob → Type 0
AsksServe rows job =
    HasConnections rows job.connections × HasPort rows job.port
    × HasMaybeText rows (codes "rights") (option_map (λ text. text.now) job.rights)
    × HasMaybeText rows (codes "merchants") (option_map (λ text. text.now) job.merchants)
    × HasText rows (codes "FILE") job.file.now

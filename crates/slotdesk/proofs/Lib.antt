mod UnknownFiles
